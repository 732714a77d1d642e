-- Each turn reads some bytes behind those that were read before.
use Rattle.std.proofs.Common.{◌≡◌, ℕ, ◌+◌, ◌-◌, ◌≤◌, List, ◌++◌, length, take, None, Some, Option, sym, refl, subst, ap, ◌∙◌, arith, rules, append_assoc}
use borrow.Rule.Slice.PartMut.{put_mid}
use Rattle.std.specs.Io.KnownBytes.{Consumes}
use Rattle.std.proofs.Math.Seq.{take-append-add}
use Rattle.std.proofs.lemmas.List.{length-take-le, take-take}
use Rattle.std.proofs.lemmas.Slice.{take-put_mid}
use Rattle.inputs.proofs.read_front.Goals as goal

-- what two reads take, one after the other
consumes_both : (a b c : Option (List ℕ)) (xs ys : List ℕ) → Consumes a b xs → Consumes b c ys → Consumes a c (xs ++ ys)
consumes_both None b c xs ys h k = tt
consumes_both (Some os) None c xs ys h k = absurd h
consumes_both (Some os) (Some bs) None xs ys h k = absurd k
consumes_both (Some os) (Some bs) (Some cs) xs ys h k = h ∙ ap (λ l. xs ++ l) k ∙ sym (append_assoc xs ys cs)

front_then : (i k n : ℕ) (xs ys : List ℕ) → i ≤ length xs → n ≤ length ys → take (i + n) (put_mid i k xs ys) ≡ take i xs ++ take n ys
front_then i k n xs ys h l =
    let all = put_mid i k xs ys in
    sym (take-take (i + n) (i + length ys) all (omega arith))
    ∙ ap (take (i + n)) (take-put_mid i k xs ys (i + length ys) refl h)
    ∙ ap (λ m. take (m + n) (take i xs ++ ys)) (sym (length-take-le i xs h))
    ∙ take-append-add (take i xs) ys n

pub loop-filled-preserved : goal.loop-filled-preserved
loop-filled-preserved g c =
    let i = c.loop-filled.filled in
    let n = c.in_ok-more.more in
    let buf = c.loop-filled.buffer in
    let new = c.read.new.buf in
    let k = length buf - i in
    let room : i ≤ length buf = c.loop-filled.invariant.0 in
    let first : length (take i buf) ≡ i = length-take-le i buf room in
    let front : take (i + n) (put_mid i k buf new) ≡ take i buf ++ take n new = front_then i k n buf new room c.in_ok-more.ensures.bound.0 in (
      search rules,
      search rules,
      subst (Consumes (g.R.Read.remaining c.args.source.now) (g.R.Read.remaining c.read.new.self)) (sym front) (consumes_both _ _ _ (take i buf) (take n new) c.loop-filled.invariant.2 c.in_ok-more.ensures.bytes.0),
    )
