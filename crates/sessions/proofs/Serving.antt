-- A request that makes a call, which is refused.
use Rattle.std.proofs.Common.{◌≡◌, ℕ, List, Some, None, Err, IsErrAnd, Option, Result, sym, refl, ap, ◌∙◌, subst}
use Rattle.std.proofs.lemmas.Result.{err_from_is_err_and}
use Rattle.refusals.specs.declared.Refusal.{Refusal}
use Rattle.feeders.specs.Motion.{Motion}
use Rattle.scripts.specs.declared.request.Request.{Request}
use Rattle.scripts.specs.declared.request.Request.TheVariants.{Trace}
use Rattle.histories.specs.Rules.{Plans}
use Rattle.histories.specs.declared.call.Call.{Call}
use Rattle.jobs.specs.Reach.{Reached, Leads}
use Rattle.jobs.specs.declared.job.Job.{Job}
use Rattle.sessions.specs.Served.{Called, Done, Written, called_by, with_call}

module _ (m : Motion) (h : List Call) (plan : Plans) (c : Call) (refusal : Option Refusal) (before : List ℕ) where
  writes_none : (q : Option Request) → called_by q ≡ Some c → Written m h plan q refusal 0 before before
  writes_none None is = absurd (cc)
  writes_none (Some Trace) is = absurd (cc)
  writes_none (Some _) is = (refl, refl)

pub call_refused : {F : Type 0} (m : Motion) (j k : Job F) (q : Option Request) (c : Call) → called_by q ≡ Some c → (before : List ℕ) (r : Result ℕ Refusal) (e : Refusal) → IsErrAnd r (λ x. x ≡ e) → Leads m j c k (Err e) → (h : List Call) (plan : Plans) → Reached m h plan j → Done m h plan q k before before r
call_refused m j k q c is before r e refused leads h plan R =
    let p = err_from_is_err_and r refused in
    let answer : r ≡ Err e = p.1 ∙ ap (λ (x : Refusal). Err x) p.2 in
    let t = leads h plan R in
    subst (Done m h plan q k before before) (sym answer) (record {
      next = t.0;
      reached = subst (λ (x : Option Call). Reached m (with_call x h) t.0 k) (sym is) t.1;
      called = subst (λ (x : Option Call). Called m h plan t.0 x (Some e)) (sym is) (Err e, t.2, t.3, refl);
      written = writes_none m h plan c (Some e) before q is;
    })
