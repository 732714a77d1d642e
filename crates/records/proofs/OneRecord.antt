-- A plan that keeps the rule has one record that is accepted.
use Rattle.std.proofs.Common.{◌≡◌, ℕ, ◌≤◌, Bool, true, false, cond, T, ltb, eqb, List, [], ◌∷◌, ◌++◌, length, Ok, Err, Result, sym, refl, ap, ◌∙◌, subst}
use Rattle.std.proofs.lemmas.Bool.{eqb-true, lt-ltb, ltb-true}
use Rattle.refusals.specs.declared.Fault.{Fault}
use Rattle.feeders.specs.Sets.{all_below}
use Rattle.numbers.proofs.Grammar.{within_true, within_only}
use Rattle.numbers.specs.Field.{and_then}
use Rattle.numbers.specs.Grammar.{within}
use Rattle.numbers.specs.Number.{Read}
use Rattle.records.proofs.Limits.{Limits, limits_from_fits, fits_from_limits}
use Rattle.records.proofs.Lists.{After, list_after, list_along, outcome, split}
use Rattle.records.proofs.Lists.After.{cut, ended, left_over, outside, too_long}
use Rattle.records.specs.Contents.{Contents, Keeps, plan_with}
use Rattle.records.specs.Format.{spell}
use Rattle.records.specs.Laws.{OneRecord}
use Rattle.records.specs.Reading.{field_at, fields_at, list_at, record_at}

-- ---- what is accepted passed each test

cond_only : {X : Type 0} (ok : Bool) (go : Result X Fault) (e : Fault) (x : X) → cond ok go (Err e) ≡ Ok x → (ok ≡ true) × (go ≡ Ok x)
cond_only true go e x h = (refl, h)
cond_only false go e x h = absurd (cc)

and_then_only : {X Y : Type 0} (r : Result X Fault) (go : X → Result Y Fault) (y : Y) → and_then r go ≡ Ok y → (x : X) × (r ≡ Ok x) × (go x ≡ Ok y)
and_then_only (Ok x) go y h = (x, refl, h)
and_then_only (Err e) go y h = absurd (cc)

pub field_only : (test : ℕ → Bool) (place : ℕ) (rest : List ℕ) (v : Read) → field_at test place rest ≡ Ok v → (test v.value ≡ true) × (rest ≡ v.value ∷ v.rest)
field_only test place [] v h = absurd (cc)
field_only test place (b ∷ rest) v h =
    let p = cond_only (test b) (Ok (record { value = b; rest = rest })) _ v h in
    let same : ◌≡◌ {A = Read} (record { value = b; rest = rest }) v = let e = p.1 in cc in
    (subst (λ (r : Read). test r.value ≡ true) same p.0, ap (λ (r : Read). r.value ∷ r.rest) same)

-- ---- the actions

-- the end byte is all that stands after the actions of a list that is read
only_end : (k : ℕ) (read after list : List ℕ) (next : After k read after) → outcome k read next ≡ Ok list → (after ≡ 32 ∷ []) × (read ≡ list)
only_end k read _ list cut h = absurd (cc)
only_end k read _ list ended h = (refl, cc)
only_end k read _ list (left_over x rest) h = absurd (cc)
only_end k read _ list (outside b rest ne out) h = absurd (cc)
only_end k read _ list (too_long b rest lt full) h = absurd (cc)

-- the bytes are the actions of the list, and the end byte
record Listed (k : ℕ) (rest list : List ℕ) : Type 0 where
  spelled : rest ≡ list ++ (32 ∷ [])
  there : T (all_below k list)
  short : length list ≤ 16384

list_only : (k : ℕ) (rest list : List ℕ) → k ≤ 32 → list_at k [] rest ≡ Ok list → Listed k rest list
list_only k rest list few h =
    let s = split k rest in
    let comes : list_at k [] rest ≡ outcome k s.read s.next = ap (list_at k []) s.is ∙ list_along k [] s.read s.after few s.there s.short ∙ list_after k s.read few s.next in
    let p = only_end k s.read s.after list s.next (sym comes ∙ h) in
    record { spelled = s.is ∙ rw (p.0, p.1); there = rw (← p.1) s.there; short = rw (← p.1) s.short }

-- ---- the whole record

pub record_accepted : (c : Contents) → Keeps c → record_at (spell c) ≡ Ok c
record_accepted c keeps =
    let l = limits_from_fits c keeps.inside in
    let n : within 1 32 c.poses ≡ true = within_true 1 32 c.poses l.some_pose l.few_poses in
    let k : within 1 32 c.actions ≡ true = within_true 1 32 c.actions l.some_action l.few_actions in
    let e : ltb c.end c.poses ≡ true = lt-ltb c.end c.poses l.end_there in
    rw (n, k, e, list_along c.actions [] c.list (32 ∷ []) l.few_actions l.all_there keeps.short)

-- fields from which a plan is read are its spelling
fields_only : (rest : List ℕ) (c : Contents) → fields_at rest ≡ Ok c → Keeps c × (rest ≡ c.poses ∷ (c.actions ∷ (c.end ∷ (c.list ++ (32 ∷ [])))))
fields_only rest c h =
    let n = and_then_only (field_at (within 1 32) 1 rest) _ c h in
    let k = and_then_only (field_at (within 1 32) 2 n.0.rest) _ c n.2 in
    let e = and_then_only (field_at (λ p. ltb p n.0.value) 3 k.0.rest) _ c k.2 in
    let list = and_then_only (list_at k.0.value [] e.0.rest) _ c e.2 in
    let first = field_only (within 1 32) 1 rest n.0 n.1 in
    let second = field_only (within 1 32) 2 n.0.rest k.0 k.1 in
    let third = field_only (λ p. ltb p n.0.value) 3 k.0.rest e.0 e.1 in
    let in-n = within_only 1 32 n.0.value first.0 in
    let in-k = within_only 1 32 k.0.value second.0 in
    let l = list_only k.0.value e.0.rest list.0 in-k.1 list.1 in
    let d = plan_with n.0.value k.0.value e.0.value list.0 in
    let limits : Limits d = record {
      some_pose = in-n.0;
      few_poses = in-n.1;
      some_action = in-k.0;
      few_actions = in-k.1;
      end_there = ltb-true e.0.value n.0.value third.0;
      all_there = l.there;
    } in
    let whole : rest ≡ d.poses ∷ (d.actions ∷ (d.end ∷ (d.list ++ (32 ∷ [])))) = cc (first.1, second.1, third.1, l.spelled) in
    let is : d ≡ c = let same = list.2 in cc in
    let Spelled : Contents → Type 0 = λ u. Keeps u × (rest ≡ u.poses ∷ (u.actions ∷ (u.end ∷ (u.list ++ (32 ∷ []))))) in
    subst Spelled is (record { inside = fits_from_limits d limits; short = l.short }, whole)

record_only : (bytes : List ℕ) (c : Contents) → record_at bytes ≡ Ok c → Keeps c × (bytes ≡ spell c)
record_only [] c h = absurd (cc)
record_only (kind ∷ rest) c h =
    let p = cond_only (eqb kind 4) (fields_at rest) _ c h in
    let f = fields_only rest c p.1 in
    let is : kind ≡ 4 = eqb-true kind 4 p.0 in
    (f.0, cc (is, f.1))

pub one_record : OneRecord
one_record = record {
  accepted = record_accepted;
  only = record_only;
  one = λ bytes others c h k. (record_only bytes c h).1 ∙ sym (record_only others c k).1;
}
