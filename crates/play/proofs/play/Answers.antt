use Rattle.std.proofs.Common.{◌≡◌, ℕ, List, [], ◌∷◌, length, sym, refl, ap, ◌∙◌, subst, arith}
use Rattle.histories.specs.declared.call.Call.{Call}
use Rattle.jobs.specs.Reach.{Reached}
use Rattle.sessions.specs.Served.{after_lines, history_of}
use Rattle.scripts.specs.Split.{lines_of}
use Rattle.play.proofs.play.Goals as goal

pub shape_of-rows-in_err-answer_line : goal.shape_of-rows-in_err-answer_line
shape_of-rows-in_err-answer_line g c = c.serve-reply.auto.buffer ∙ c.loop-line.invariant.0

pub shape_of-rows-in_err-print : goal.shape_of-rows-in_err-print
shape_of-rows-in_err-print g c = c.serve-reply.auto.buffer ∙ c.loop-line.invariant.0

pub shape_of-rows-in_err-write_all : goal.shape_of-rows-in_err-write_all
shape_of-rows-in_err-write_all g c = c.serve-reply.auto.buffer ∙ c.loop-line.invariant.0

pub shape_of-rows : goal.shape_of-rows
shape_of-rows g c = c.loop-line.invariant.0

none_left : (xs : List ℕ) → length xs ≡ 0 → xs ≡ []
none_left [] e = refl
none_left (x ∷ xs) e = let z : ⊥ = omega arith in absurd z

pub returns : goal.returns
returns g c =
    let script = c.args.script.now in
    let job = c.loop-line.job in
    let served = c.loop-line.invariant.2 in
    let h = served.0 in
    let plan = served.1.0 in
    let whole : h ≡ history_of script = sym (ap (λ (rest : List ℕ). after_lines (lines_of rest) h) (none_left c.loop-line.rest.now c.in_default.ensures.first)) ∙ served.2 in
    let reached = subst (λ f. Reached (g.F.Feeder.motion f) h plan job) c.new-job.ensures.same served.1.1 in
    (plan, subst (λ (x : List Call). Reached (g.F.Feeder.motion c.args.feeder) x plan job) whole reached)
