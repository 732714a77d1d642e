-- One entry of a series: performed where the feeder below has it, else passed over.
use Rattle.std.proofs.Common.{◌≡◌, ℕ, ◌+◌, ◌<◌, ◌≤◌, ltb, List, ◌∷◌, length, get_or, drop, sym, ap, ◌∙◌, arith}
use Rattle.std.proofs.lemmas.List.{at_drop_more, at_drop_all}
use Rattle.std.proofs.lemmas.Bool.{cond-true, cond-false, lt-ltb, le-ltb}
use Rattle.feeders.specs.Motion.{Motion, brings}
use Rattle.layers.specs.Series.{present}

-- where the entries from i on bring pose p
abbrev pub rest : Motion → ℕ → List ℕ → ℕ → ℕ
rest m p xs i = brings m p (present m.actions (drop i xs))

first : (m : Motion) (p : ℕ) (xs : List ℕ) (i : ℕ) → i < length xs → rest m p xs i ≡ brings m p (present m.actions (get_or xs i 0 ∷ drop (i + 1) xs))
first m p xs i h = at_drop_more (λ w. brings m p (present m.actions w)) xs i 0 h

-- The two turns of the loop: p goes on to q, or stays, and what is left still leads to z.
pub rest-performs : (m : Motion) (p a q z : ℕ) (xs : List ℕ) (i : ℕ) → i < length xs → a ≡ get_or xs i 0 → a < m.actions → q ≡ m.next p a → rest m p xs i ≡ z → rest m q xs (i + 1) ≡ z
rest-performs m p a q z xs i h e has moved inv =
    let x = get_or xs i 0 in
    let w = present m.actions (drop (i + 1) xs) in
    let one : rest m p xs i ≡ rest m (m.next p x) xs (i + 1) =
    first m p xs i h ∙ ap (brings m p) (cond-true (ltb x m.actions) (x ∷ w) w (lt-ltb x m.actions (omega arith))) in
    ap (λ (y : ℕ). rest m y xs (i + 1)) (moved ∙ ap (m.next p) e) ∙ sym one ∙ inv

pub rest-passes_over : (m : Motion) (p a q z : ℕ) (xs : List ℕ) (i : ℕ) → i < length xs → a ≡ get_or xs i 0 → m.actions ≤ a → q ≡ p → rest m p xs i ≡ z → rest m q xs (i + 1) ≡ z
rest-passes_over m p a q z xs i h e lacks stayed inv =
    let x = get_or xs i 0 in
    let w = present m.actions (drop (i + 1) xs) in
    let one : rest m p xs i ≡ rest m p xs (i + 1) =
    first m p xs i h ∙ ap (brings m p) (cond-false (ltb x m.actions) (x ∷ w) w (le-ltb x m.actions (omega arith))) in
    ap (λ (y : ℕ). rest m y xs (i + 1)) stayed ∙ sym one ∙ inv

pub rest_ends : (m : Motion) (p z : ℕ) (xs : List ℕ) (i : ℕ) → length xs ≤ i → rest m p xs i ≡ z → p ≡ z
rest_ends m p z xs i h inv = sym (at_drop_all (λ w. brings m p (present m.actions w)) xs i h) ∙ inv
