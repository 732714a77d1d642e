-- The rules of the layers' tables, by tests that compute.
use Rattle.std.proofs.Common.{◌≡◌, ℕ, ◌<◌, ◌≤◌, Bool, ◌&&◌, ◌||◌, T, eqb, ltb, leb, List, [], length, get_or, inl, inr, arith, eqb→eq, ltb→lt, leb→le}
use Rattle.feeders.specs.Sets.{all_below}
use Rattle.feeders.proofs.Sets.{T-or}
use Rattle.graphs.specs.Certificate.{every_below}
use Rattle.graphs.proofs.Certificates.{every_below_each}
use Rattle.layers.specs.Series as series
use Rattle.layers.specs.Renumbering as renumbering
use Rattle.layers.specs.Once.{times, OnceEach}
use Rattle.histories.proofs.Words.{T_and}

-- ---- series

abbrev pub is_series : List (List ℕ) → Bool
is_series ss =
    (leb 1 (length ss) && leb (length ss) 16) && every_below (length ss) (λ i. leb (length (get_or ss i [])) 8 && all_below 32 (get_or ss i []))

pub series_sound : (ss : List (List ℕ)) → T (is_series ss) → series.Keeps ss
series_sound ss t =
    let k = (T_and (leb 1 (length ss) && leb (length ss) 16) _).0 t in
    let count = (T_and (leb 1 (length ss)) (leb (length ss) 16)).0 k.0 in
    let each : (i : ℕ) → i < length ss → T (leb (length (get_or ss i [])) 8) × T (all_below 32 (get_or ss i [])) =
    λ i h. (T_and (leb (length (get_or ss i [])) 8) (all_below 32 (get_or ss i []))).0 (every_below_each (length ss) (λ i. leb (length (get_or ss i [])) 8 && all_below 32 (get_or ss i [])) k.1 i h) in
    record {
      some = leb→le 1 (length ss) count.0;
      few = leb→le (length ss) 16 count.1;
      short = λ i h. leb→le (length (get_or ss i [])) 8 (each i h).0;
      entries = λ i h. (each i h).1;
    }

-- ---- renumberings

-- from count on, below 32, each place holds its own number
abbrev pub own_from : ℕ → List ℕ → Bool
own_from count number = every_below 32 (λ p. ltb p count || eqb (get_or number p 0) p)

pub own_sound : (count : ℕ) (number : List ℕ) → T (own_from count number) → (p : ℕ) → count ≤ p → p < 32 → get_or number p 0 ≡ p
own_sound count number t p from h =
    elim ((T-or (ltb p count) (eqb (get_or number p 0) p)).0 (every_below_each 32 (λ p. ltb p count || eqb (get_or number p 0) p) t p h)) [
      | inl l ↦ omega (arith, ltb→lt p count l)
      | inr e ↦ eqb→eq (get_or number p 0) p e
    ]

-- the number at a place is found at that place, and the other way round
abbrev pub is_back : renumbering.Numbering → ℕ → Bool
is_back t q =
    (ltb (get_or t.place q 0) 32 && eqb (get_or t.number (get_or t.place q 0) 0) q) && eqb (get_or t.place (get_or t.number q 0) 0) q

abbrev pub is_numbering : renumbering.Numbering → Bool
is_numbering t =
    (leb t.count 32 && eqb (length t.number) 32)
    && ((every_below t.count (λ p. ltb (get_or t.number p 0) t.count) && own_from t.count t.number) && every_below 32 (is_back t))

pub numbering_sound : (t : renumbering.Numbering) → T (is_numbering t) → renumbering.Keeps t
numbering_sound t ok =
    let k = (T_and (leb t.count 32 && eqb (length t.number) 32) _).0 ok in
    let size = (T_and (leb t.count 32) (eqb (length t.number) 32)).0 k.0 in
    let l = (T_and (every_below t.count (λ p. ltb (get_or t.number p 0) t.count) && own_from t.count t.number) (every_below 32 (is_back t))).0 k.1 in
    let rows = (T_and (every_below t.count (λ p. ltb (get_or t.number p 0) t.count)) (own_from t.count t.number)).0 l.0 in
    let each : (q : ℕ) → q < 32 → T (ltb (get_or t.place q 0) 32 && eqb (get_or t.number (get_or t.place q 0) 0) q) × T (eqb (get_or t.place (get_or t.number q 0) 0) q) =
    λ q h. (T_and (ltb (get_or t.place q 0) 32 && eqb (get_or t.number (get_or t.place q 0) 0) q) (eqb (get_or t.place (get_or t.number q 0) 0) q)).0 (every_below_each 32 (is_back t) l.1 q h) in
    record {
      few = leb→le t.count 32 size.0;
      fits = eqb→eq (length t.number) 32 size.1;
      inside = λ p h. ltb→lt (get_or t.number p 0) t.count (every_below_each t.count (λ p. ltb (get_or t.number p 0) t.count) rows.0 p h);
      own = own_sound t.count t.number rows.1;
      back = λ q h.
          let b = (T_and (ltb (get_or t.place q 0) 32) (eqb (get_or t.number (get_or t.place q 0) 0) q)).0 (each q h).0 in
          (ltb→lt (get_or t.place q 0) 32 b.0, eqb→eq (get_or t.number (get_or t.place q 0) 0) q b.1);
      forth = λ p h. eqb→eq (get_or t.place (get_or t.number p 0) 0) p (each p h).1;
    }

pub once_sound : (list : List ℕ) → T (every_below (length list) (λ q. eqb (times q list) 1)) → OnceEach list
once_sound list t q h = eqb→eq (times q list) 1 (every_below_each (length list) (λ q. eqb (times q list) 1) t q h)
