-- The first pose from above whose pairs begin at the node or before is the greater pose of the node.
use Rattle.std.proofs.Common.{◌≡◌, ℕ, suc, ◌<◌, ◌≤◌, None, Some, Option, rules, inl, inr, refl, arith}
use Rattle.std.proofs.lemmas.Bool.{cases_lt}
use Rattle.std.proofs.iter.runs.Sources.{ranges}
use Rattle.std.specs.Option.{IsSome}
use borrow.Author.Tests.{tests}
use Rattle.graphs.specs.Pairs.{start, upper}
use Rattle.graphs.proofs.Numbering.{start_mono, upper_pair}
use Rattle.grounds.proofs.Descents.{passed_over}
use Rattle.grounds.proofs.starts.upper_of.Goals as goal
use Rattle.grounds.proofs.starts.upper_of.Goals.{After-find, After-unwrap}

none_begins : (c : After-find) → c.find.result ≡ None → (k : ℕ) → k < c.args.n → c.args.node < start k
none_begins c e k l = search (rules, ranges, tests)

some_begins : (c : After-find) (o : Option ℕ) → c.find.result ≡ o → IsSome o
some_begins c None e =
    let r = upper_pair c.args.n c.args.node c.requires.1 in
    let z : ⊥ = omega (arith, r.0, none_begins c e _ r.2) in
    absurd z
some_begins c (Some u) e = refl

pub unwrap-requires : goal.unwrap-requires
unwrap-requires c = some_begins c c.find.result refl

begun : (c : After-unwrap) → start c.unwrap.result ≤ c.args.node
begun c = search (rules, ranges, tests)

past : (c : After-unwrap) (k : ℕ) → c.unwrap.result < k → k < c.args.n → c.args.node < start k
past c =
    passed_over _ _ _ c.unwrap.result (λ k. c.args.node < start k) c.rev.ensures.runs c.find.ensures.runs c.unwrap.ensures (λ x r q k. search (rules, tests)) (λ x q k. search (rules, tests))

is_upper : (c : After-unwrap) → c.unwrap.result ≡ upper c.args.n c.args.node
is_upper c =
    let u = c.unwrap.result in
    let v = upper c.args.n c.args.node in
    let r = upper_pair c.args.n c.args.node c.requires.1 in
    let not_above : v < u → ⊥ = λ h. omega (arith, r.1, begun c, start_mono (suc v) u h) in
    let not_below : u < v → ⊥ = λ h. omega (arith, r.0, past c v h r.2) in
    elim (cases_lt u v) [ inl h ↦ absurd (not_below h) | inr h ↦ elim (cases_lt v u) [ inl k ↦ absurd (not_above k) | inr k ↦ omega arith ] ]

pub returns : goal.returns
returns c =
    let r = upper_pair c.args.n c.args.node c.requires.1 in
    rw (is_upper c) (record { is = refl; below = r.2; begun = r.0; lower = r.1 })
