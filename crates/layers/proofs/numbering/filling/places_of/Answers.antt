-- Each turn notes the place of one number more, and two numbers of the list differ.
use Rattle.std.proofs.Common.{◌≡◌, ℕ, ◌<◌, ◌≢◌, length, get_or, set, sym, ap, ◌∙◌, arith, below_more}
use Rattle.std.proofs.lemmas.List.{length-set, get_or-set_same, get_or-set_other}
use Rattle.layers.proofs.Counting.{entries_below, entries_apart}
use Rattle.layers.proofs.numbering.filling.places_of.Goals as goal

pub bounds-place-from : goal.bounds-place-from
bounds-place-from c =
    omega (arith, c.from.ensures, entries_below c.args.list.now c.requires.once c.loop-at.at c.loop-at-test.true, c.requires.few)

pub loop-at-preserved : goal.loop-at-preserved
loop-at-preserved c =
    let list = c.args.list.now in
    let place = c.loop-at.place in
    let p = c.loop-at.at in
    let x = c.from.result in
    let inside : p < length list = c.loop-at-test.true in
    let small = entries_below list c.requires.once p inside in
    let there : x < length place = omega (arith, c.from.ensures, c.loop-at.invariant.0, c.requires.few) in (
      length-set place x p ∙ c.loop-at.invariant.0,
      below_more (λ k. get_or (set place x p) (get_or list k 0) 0 ≡ k) p
          (λ k h.
          let ne : get_or list k 0 ≢ x = λ e. entries_apart list c.requires.once k p h inside (e ∙ c.from.ensures) in
          get_or-set_other place x (get_or list k 0) p 0 ne ∙ c.loop-at.invariant.1 k h)
          (ap (λ (y : ℕ). get_or (set place x p) y 0) (sym c.from.ensures) ∙ get_or-set_same place x p 0 there),
      λ q h few.
          let ne : q ≢ x = omega (arith, c.from.ensures) in
          get_or-set_other place x q p 0 ne ∙ c.loop-at.invariant.2 q h few,
    )
