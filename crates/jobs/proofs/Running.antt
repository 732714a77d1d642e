-- One call more, in a run of calls.
use Rattle.std.proofs.Common.{◌≡◌, ℕ, ◌+◌, ◌<◌, ◌≤◌, List, [], ◌∷◌, reverse, length, get_or, take, set, None, Ok, sym, refl, ap, ◌∙◌, inl, inr, arith, get_or-set_other, get_or-set_same}
use mathlib.Core.List.{reverse-append}
use Rattle.std.proofs.lemmas.List.{take_more}
use Rattle.std.proofs.lemmas.Bool.{cases_eq}
use Rattle.feeders.specs.Motion.{Motion}
use Rattle.histories.specs.Rules.{Plans, Answer}
use Rattle.histories.specs.declared.call.Call.{Call}
use Rattle.histories.specs.declared.call.Call.TheVariants.{Bar}
use Rattle.jobs.specs.Reach.{Reached, Leads}
use Rattle.jobs.specs.Run.{Placed}
use Rattle.jobs.specs.declared.job.Job.{Job}

-- The first i calls are made: they lead to the job, each is answered at its place, and the other places are as they were.
pub record Ran {F : Type 0} (m : Motion) (calls : List Call) (old answers : List Answer) (i : ℕ) (job : Job F) : Type 0 where
  pub plan : Plans
  pub reached : Reached m (reverse (take i calls)) plan job
  pub placed : (k : ℕ) → k < i → Placed m calls answers k
  pub rest : (k : ℕ) → i ≤ k → get_or answers k (Ok None) ≡ get_or old k (Ok None)

one_more : (calls : List Call) (i : ℕ) → i < length calls → reverse (take (i + 1) calls) ≡ get_or calls i (Bar 0) ∷ reverse (take i calls)
one_more calls i h = ap reverse (take_more calls i (Bar 0) h) ∙ reverse-append (take i calls) (get_or calls i (Bar 0) ∷ [])

placed_same : (m : Motion) (calls : List Call) (xs ys : List Answer) (k : ℕ) → get_or xs k (Ok None) ≡ get_or ys k (Ok None) → Placed m calls xs k → Placed m calls ys k
placed_same m calls xs ys k e p = record {
  before = p.before;
  after = p.after;
  held = p.held;
  rule = rw (← e) p.rule;
  sure = rw (← e) p.sure;
}

module _ {F : Type 0} (m : Motion) (calls : List Call) (old : List Answer) where
  pub ran_none : (job : Job F) → Reached m [] None job → Ran m calls old old 0 job
  ran_none job r = record { plan = None; reached = r; placed = λ k h. let z : ⊥ = omega arith in absurd z; rest = λ k h. refl }

  pub ran_more : (answers : List Answer) (i : ℕ) (job next : Job F) (r : Answer) → i < length calls → i < length answers → Leads m job (get_or calls i (Bar 0)) next r → Ran m calls old answers i job → Ran m calls old (set answers i r) (i + 1) next
  ran_more answers i job next r lc la leads ran =
      let t = leads (reverse (take i calls)) ran.plan ran.reached in
      let here : get_or (set answers i r) i (Ok None) ≡ r = get_or-set_same answers i r (Ok None) la in
      let new : Placed m calls (set answers i r) i = record {
        before = ran.plan;
        after = t.0;
        held = ran.reached.held_as;
        rule = rw here t.2;
        sure = rw here t.3;
      } in
      record {
        plan = t.0;
        reached = rw (one_more calls i lc) t.1;
        placed = λ k h. elim (cases_eq k i) [
          | inl e ↦ rw e new
          | inr n ↦ placed_same m calls answers (set answers i r) k (sym (get_or-set_other answers i k r (Ok None) n)) (ran.placed k (omega (arith, n)))
        ];
        rest = λ k h. get_or-set_other answers i k r (Ok None) (omega arith) ∙ ran.rest k (omega arith);
      }
