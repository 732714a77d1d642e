-- A refused record is at fault at the first byte with which no record goes on, or ends early.
use Rattle.std.proofs.Common.{◌≡◌, ℕ, ◌+◌, ◌≤◌, true, T, eqb, ltb, ◌⊎◌, List, [], ◌∷◌, ◌++◌, length, Ok, Err, Result, sym, refl, ap, ◌∙◌, subst, inl, inr, arith, length-append}
use Rattle.std.proofs.lemmas.List.{append-nil, append_assoc}
use Rattle.std.proofs.lemmas.Bool.{cases_Bool, eqb-true, ltb-true}
use Rattle.refusals.specs.declared.Fault.{Fault}
use Rattle.refusals.specs.declared.Refusal.{Refusal}
use Rattle.refusals.specs.declared.Refusal.TheVariants.{EndsEarly, LeftOver, OutsideLimit, PlanTooLong, WrongKind}
use Rattle.feeders.specs.Sets.{all_below}
use Rattle.numbers.proofs.Grammar.{within_only}
use Rattle.numbers.specs.Field.{and_then}
use Rattle.numbers.specs.Grammar.{within}
use Rattle.records.proofs.Limits.{Limits, fits_from_limits}
use Rattle.records.proofs.Lists.{After, list_after, list_along, outcome, split}
use Rattle.records.proofs.Lists.After.{cut, ended, left_over, outside, too_long}
use Rattle.records.proofs.OneRecord.{record_accepted}
use Rattle.records.specs.Contents.{Contents, plan_with}
use Rattle.records.specs.Format.{spell}
use Rattle.records.specs.Laws.{Begins, Cut, Stops, FaultPlaces}
use Rattle.records.specs.Reading.{fault_at, record_at}

abbrev Placed : List ℕ → Fault → Type 0
Placed bytes f = Cut bytes f ⊎ Stops bytes f

abbrev Faulty : Refusal → ℕ → Fault → Type 0
Faulty r place f = ◌≡◌ {A = Result Contents Fault} (Err (fault_at r place)) (Err f)

-- bytes that end early
cut_at : (place : ℕ) (bytes : List ℕ) (f : Fault) → place ≡ length bytes → Faulty EndsEarly place f → Begins bytes → Placed bytes f
cut_at place bytes f long h begins = let is : fault_at EndsEarly place ≡ f = cc in inl (sym is ∙ ap (fault_at EndsEarly) long, begins)

-- a byte at which the reader stops, whatever follows: no record goes on with it, since a record is read
stops_at : (r : Refusal) (place : ℕ) (front : List ℕ) (byte : ℕ) (after : List ℕ) (f : Fault) → (r ≡ EndsEarly → ⊥) → place ≡ length front → Faulty r place f → Begins front → ((more : List ℕ) → record_at (front ++ (byte ∷ more)) ≡ Err f) → Placed (front ++ (byte ∷ after)) f
stops_at r place front byte after f late long h begins stops =
    let is : fault_at r place ≡ f = cc in
    inr (record {
      front = front;
      byte = byte;
      after = after;
      split = refl;
      refusal = r;
      not_early = late;
      fault = sym is ∙ ap (fault_at r) long;
      goes_on = begins;
      no_further = λ (c, rest, keeps, whole).
          let same : spell c ≡ front ++ (byte ∷ rest) = whole ∙ append_assoc front (byte ∷ []) rest in
          let both : ◌≡◌ {A = Result Contents Fault} (Err f) (Ok c) = sym (stops rest) ∙ ap record_at (sym same) ∙ record_accepted c keeps in
          cc;
    })

-- a record goes on from fields within their limits, and from actions that there are
begins_from : (c : Contents) (front rest : List ℕ) → Limits c → length c.list ≤ 16384 → spell c ≡ front ++ rest → Begins front
begins_from c front rest limits short is = (c, rest, record { inside = fits_from_limits c limits; short = short }, is)

-- ---- the actions

abbrev front : ℕ → ℕ → ℕ → List ℕ → List ℕ
front n k e tail = 4 ∷ (n ∷ (k ∷ (e ∷ tail)))

module _ (n k e : ℕ) (in-n : within 1 32 n ≡ true) (in-k : within 1 32 k ≡ true) (lt : ltb e n ≡ true) where
  few : k ≤ 32
  few = (within_only 1 32 k in-k).1

  begins_listed : (read tail rest : List ℕ) → T (all_below k read) → length read ≤ 16384 → read ++ (32 ∷ []) ≡ tail ++ rest → Begins (front n k e tail)
  begins_listed read tail rest there short is =
      let p = within_only 1 32 n in-n in
      let q = within_only 1 32 k in-k in
      let limits : Limits (plan_with n k e read) = record { some_pose = p.0; few_poses = p.1; some_action = q.0; few_actions = q.1; end_there = ltb-true e n lt; all_there = there } in
      begins_from (plan_with n k e read) (front n k e tail) rest limits short (ap (front n k e) is)

  module _ (read : List ℕ) (there : T (all_below k read)) (short : length read ≤ 16384) where
    comes : {after : List ℕ} (next : After k read after) → record_at (front n k e (read ++ after)) ≡ and_then (outcome k read next) (λ list. Ok (plan_with n k e list))
    comes next = rw (in-n, in-k, lt, list_along k [] read _ few there short, list_after k read few next)

    -- a byte after the actions that is not the end
    not_end : (r : Refusal) (b : ℕ) (rest : List ℕ) (f : Fault) → (r ≡ EndsEarly → ⊥) → Faulty r (4 + length read) f → ((more : List ℕ) → record_at (front n k e (read ++ (b ∷ more))) ≡ Err f) → Placed (front n k e (read ++ (b ∷ rest))) f
    not_end r b rest f late h stops =
        stops_at r (4 + length read) (front n k e read) b rest f late (omega arith) h (begins_listed read read (32 ∷ []) there short refl) stops

    after_placed : {after : List ℕ} (next : After k read after) (f : Fault) → and_then (outcome k read next) (λ list. Ok (plan_with n k e list)) ≡ Err f → Placed (front n k e (read ++ after)) f
    after_placed cut f h =
        rw append-nil (cut_at (4 + length read) (front n k e read) f (omega arith) h (begins_listed read read (32 ∷ []) there short refl))
    after_placed ended f h = absurd (cc)
    after_placed (left_over x rest) f h =
        let whole : List ℕ = read ++ (32 ∷ []) in
        let begins : Begins (front n k e whole) = begins_listed read whole [] there short (sym (append-nil whole)) in
        let same : (after : List ℕ) → whole ++ after ≡ read ++ (32 ∷ after) = append_assoc read (32 ∷ []) in
        rw (← same) (stops_at LeftOver (5 + length read) (front n k e whole) x rest f (λ early. cc) (omega (arith, length-append read (32 ∷ []))) h begins (λ more. rw same (comes (left_over x more) ∙ h)))
    after_placed (outside b rest ne out) f h = not_end OutsideLimit b rest f (λ early. cc) h (λ more. comes (outside b more ne out) ∙ h)
    after_placed (too_long b rest few full) f h = not_end PlanTooLong b rest f (λ early. cc) h (λ more. comes (too_long b more few full) ∙ h)

  list_placed : (rest : List ℕ) (f : Fault) → record_at (front n k e rest) ≡ Err f → Placed (front n k e rest) f
  list_placed rest f h =
      let s = split k rest in
      subst (λ r. Placed (front n k e r) f) (sym s.is)
      (after_placed s.read s.there s.short s.next f (sym (comes s.read s.there s.short s.next) ∙ ap (λ r. record_at (front n k e r)) (sym s.is) ∙ h))

-- ---- the fields in front of them

-- a record begins with the least that a plan can be
begins_least : (n k : ℕ) (before rest : List ℕ) → within 1 32 n ≡ true → within 1 32 k ≡ true → spell (plan_with n k 0 []) ≡ before ++ rest → Begins before
begins_least n k before rest in-n in-k is =
    let p = within_only 1 32 n in-n in
    let q = within_only 1 32 k in-k in
    begins_from (plan_with n k 0 []) before rest (record { some_pose = p.0; few_poses = p.1; some_action = q.0; few_actions = q.1; end_there = p.0; all_there = tt }) (omega arith) is

end_placed : (n k : ℕ) (rest : List ℕ) (f : Fault) → within 1 32 n ≡ true → within 1 32 k ≡ true → record_at (4 ∷ (n ∷ (k ∷ rest))) ≡ Err f → Placed (4 ∷ (n ∷ (k ∷ rest))) f
end_placed n k [] f in-n in-k h =
    cut_at 3 (4 ∷ (n ∷ (k ∷ []))) f refl (rw (in-n, in-k) at h) (begins_least n k (4 ∷ (n ∷ (k ∷ []))) _ in-n in-k refl)
end_placed n k (e ∷ rest) f in-n in-k h =
    elim (cases_Bool (ltb e n)) [
      | inl lt ↦ list_placed n k e in-n in-k lt rest f h
      | inr ge ↦
          let at = rw (in-n, in-k, ge) at h in
          stops_at OutsideLimit 3 (4 ∷ (n ∷ (k ∷ []))) e rest f (λ early. cc) refl at (begins_least n k (4 ∷ (n ∷ (k ∷ []))) _ in-n in-k refl) (λ more. rw (in-n, in-k, ge) at)
    ]

actions_placed : (n : ℕ) (rest : List ℕ) (f : Fault) → within 1 32 n ≡ true → record_at (4 ∷ (n ∷ rest)) ≡ Err f → Placed (4 ∷ (n ∷ rest)) f
actions_placed n [] f in-n h = cut_at 2 (4 ∷ (n ∷ [])) f refl (rw in-n at h) (begins_least n 1 (4 ∷ (n ∷ [])) _ in-n refl refl)
actions_placed n (k ∷ rest) f in-n h =
    elim (cases_Bool (within 1 32 k)) [
      | inl in-k ↦ end_placed n k rest f in-n in-k h
      | inr out ↦
          let at = rw (in-n, out) at h in
          stops_at OutsideLimit 2 (4 ∷ (n ∷ [])) k rest f (λ early. cc) refl at (begins_least n 1 (4 ∷ (n ∷ [])) _ in-n refl refl) (λ more. rw (in-n, out) at)
    ]

poses_placed : (rest : List ℕ) (f : Fault) → record_at (4 ∷ rest) ≡ Err f → Placed (4 ∷ rest) f
poses_placed [] f h = cut_at 1 (4 ∷ []) f refl h (begins_least 1 1 (4 ∷ []) _ refl refl refl)
poses_placed (n ∷ rest) f h =
    elim (cases_Bool (within 1 32 n)) [
      | inl in-n ↦ actions_placed n rest f in-n h
      | inr out ↦
          let at = rw out at h in
          stops_at OutsideLimit 1 (4 ∷ []) n rest f (λ early. cc) refl at (begins_least 1 1 (4 ∷ []) _ refl refl refl) (λ more. rw out at)
    ]

pub fault_places : FaultPlaces
fault_places [] f h = cut_at 0 [] f refl h (begins_least 1 1 [] _ refl refl refl)
fault_places (b ∷ rest) f h =
    elim (cases_Bool (eqb b 4)) [
      | inl kind ↦
          let same : b ≡ 4 = eqb-true b 4 kind in
          subst (λ m. Placed (m ∷ rest) f) (sym same) (poses_placed rest f (rw same at h))
      | inr other ↦
          let at = rw other at h in
          stops_at WrongKind 0 [] b rest f (λ early. cc) refl at (begins_least 1 1 [] _ refl refl refl) (λ more. rw other at)
    ]
