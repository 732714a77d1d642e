-- The laws, which every trace keeps.
use Rattle.traces.proofs.Steps.{trace_laws}
use Rattle.traces.proofs.trace.write_trace.Goals as goal

pub returns-in_err-image-clause-laws : goal.returns-in_err-image-clause-laws
returns-in_err-image-clause-laws g c = trace_laws _ _ _

pub returns-then-buffer-list-clause-laws : goal.returns-then-buffer-list-clause-laws
returns-then-buffer-list-clause-laws g c = trace_laws _ _ _

pub returns-clause-laws : goal.returns-clause-laws
returns-clause-laws g c = trace_laws _ _ _
