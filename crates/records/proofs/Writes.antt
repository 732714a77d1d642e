-- What a buffer holds after a write: the record, and then the bytes that stood there.
use Rattle.std.proofs.Common.{◌≡◌, ℕ, ◌+◌, ◌-◌, ◌<◌, ◌≤◌, true, List, [], ◌∷◌, ◌++◌, length, get_or, take, drop, slice_set, Ok, Err, sym, ap, ◌∙◌, arith, length-append}
use borrow.Rule.Slice.PartMut.{put_mid}
use Rattle.std.proofs.lemmas.List.{append_assoc, drop-drop, drop_more, set_at, take_at}
use Rattle.std.proofs.lemmas.Bool.Decides.{nat_tests}
use Rattle.refusals.specs.declared.Refusal.TheVariants.{BufferTooShort}
use Rattle.feeders.proofs.Sets.{T_of_true}
use Rattle.records.proofs.OneRecord.{record_accepted}
use Rattle.records.specs.Contents.{Contents, fits}
use Rattle.records.specs.Format.{spell}
use Rattle.records.specs.Reading.{record_at}
use Rattle.records.specs.Writing.{written}

pub length-spell : (c : Contents) → length (spell c) ≡ 4 + length c.list + 1
length-spell c = omega (arith, length-append c.list (32 ∷ []))

-- the fields, the actions and the end byte, written one after the other, make the record
pub record_from_parts : (c : Contents) (b fields list : List ℕ) → fields ≡ 4 ∷ (c.poses ∷ (c.actions ∷ (c.end ∷ []))) → list ≡ c.list → 4 + length c.list < length b → slice_set (put_mid 4 (4 + length c.list - 4) (fields ++ drop 4 b) list) (4 + length c.list) 32 ≡ spell c ++ drop (length (spell c)) b
record_from_parts c b fields list front actions room =
    let n : ℕ = 4 + length c.list in
    let whole : List ℕ = 4 ∷ (c.poses ∷ (c.actions ∷ (c.end ∷ c.list))) in
    let same : 4 + (n - 4) ≡ n = omega arith in
    let rest : drop (n - 4) (drop 4 b) ≡ get_or b n 0 ∷ drop (n + 1) b = drop-drop (n - 4) 4 b ∙ ap (λ m. drop m b) same ∙ drop_more b n 0 room in
    let long : length whole ≡ n = omega arith in
    let all : whole ++ (32 ∷ drop (n + 1) b) ≡ spell c ++ drop (n + 1) b = rw append_assoc in
    rw (front, actions, rest) (set_at whole (get_or b n 0) (drop (n + 1) b) 32 n long) ∙ all ∙ ap (λ m. spell c ++ drop m b) (sym (length-spell c))

module _ (c : Contents) (b : List ℕ) (inside : fits c ≡ true) (short : length c.list ≤ 16384) where
  pub written_no_room : length b ≤ 4 + length c.list → written c b ≡ Err BufferTooShort
  written_no_room tight = rw inside (grind (arith, nat_tests, length-append {A = ℕ}))

  pub written_there : 4 + length c.list < length b → written c b ≡ Ok (spell c ++ drop (length (spell c)) b)
  written_there room = rw inside (grind (arith, nat_tests, length-append {A = ℕ}))

  -- what was written is read back
  pub read_back : (after : List ℕ) (n : ℕ) → n ≡ length (spell c) → after ≡ spell c ++ drop (length (spell c)) b → record_at (take n after) ≡ Ok c
  read_back after n long is =
      rw (is, take_at (spell c) (drop (length (spell c)) b) n (sym long)) (record_accepted c (record { inside = T_of_true (fits c) inside; short = short }))
