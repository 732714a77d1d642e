-- The item lent is the one at the place, and what is written to it stays there.
use Rattle.std.proofs.Common.{◌≡◌, ◌<◌, ◌≤◌, length, slice_index_or, slice_set, Some, ◌∙◌, ap, arith, rules}
use Rattle.std.proofs.lemmas.List.{places, get_or-take}
use Rattle.std.proofs.lemmas.Option.{slice_get-get_or}
use Rattle.lists.specs.Held.{list_of}
use Rattle.lists.proofs.Lent.{same_lent}
use Rattle.lists.proofs.bounded.Bounded.get_mut.Goals as goal

pub returns-then-place-self : goal.returns-then-place-self
returns-then-place-self g c =
    let n = c.args.self.now.length in
    let xs = c.args.self.now.items in
    let i = c.args.place in
    let d = c.index-self-place.result in
    let read : d ≡ slice_index_or xs i d = search rules in
    let room : n ≤ length xs = omega arith in
    let counts : length (list_of c.args.self.now) ≡ n = search (rules, places) in
    let there : i < length (list_of c.args.self.now) = omega arith in (
      same_lent _ (slice_set xs i) n _ _,
      record {
        writes_back = tt;
        variant = search rules;
        value = slice_get-get_or (list_of c.args.self.now) i d there ∙ ap (λ x. Some x) (get_or-take n xs i d (omega arith));
      },
    )
