-- The line ends at the first LF, or with the bytes.
use Rattle.std.proofs.Common.{◌≡◌, ◌≢◌, ◌<◌, length, refl, subst, arith, rules, tests}
use Rattle.std.specs.List.{AllWithin, HoldsAt}
use Rattle.std.specs.Option.{MatchOption}
use Rattle.std.proofs.lemmas.Iterator.{IsFirst-from_position, YieldsList-from_slice}
use Rattle.std.proofs.lemmas.List.{take_rest}
use Rattle.scripts.proofs.Breaks.{first_ended, first_only}
use Rattle.scripts.proofs.lines.next_line.Goals as goal

pub returns-in-Some-clause-first : goal.returns-in-Some-clause-first
returns-in-Some-clause-first c =
    let rest = c.args.rest.now in
    let end = c.in-Some.end in
    let at = IsFirst-from_position _ _ c.position.result (λ b. b ≡ 10) (λ b. b ≢ 10) c.position.ensures.ran (YieldsList-from_slice rest cc) (λ x q k. search (rules, tests)) (λ x q k. search (rules, tests)) in
    let first = subst (λ r. MatchOption r (AllWithin (λ b. b ≢ 10) rest 0 (length rest)) (λ i. (i < length rest) × HoldsAt (λ b. b ≡ 10) rest i × AllWithin (λ b. b ≢ 10) rest 0 i)) c.in-Some.is at in
    rw take_rest (first_ended rest end (omega (arith, first.0)) (λ k h. first.2 k 0 (omega arith) h) first.0 (first.1 0))

pub returns-in-None-clause-first : goal.returns-in-None-clause-first
returns-in-None-clause-first c =
    let rest = c.args.rest.now in
    let at = IsFirst-from_position _ _ c.position.result (λ b. b ≡ 10) (λ b. b ≢ 10) c.position.ensures.ran (YieldsList-from_slice rest cc) (λ x q k. search (rules, tests)) (λ x q k. search (rules, tests)) in
    let none = subst (λ r. MatchOption r (AllWithin (λ b. b ≢ 10) rest 0 (length rest)) (λ i. (i < length rest) × HoldsAt (λ b. b ≡ 10) rest i × AllWithin (λ b. b ≢ 10) rest 0 i)) c.in-None.is at in
    first_only rest (length rest) (omega arith) (λ k h. none k 0 (omega arith) h) refl (search rules)
