-- The record in its three parts.
use Rattle.std.proofs.Common.{List, ℕ, Ok, sym, ap, ◌∙◌}
use Rattle.records.proofs.Writes.{length-spell, read_back, record_from_parts, written_there}
use Rattle.records.specs.Held.{contents_of}
use Rattle.records.proofs.Record.write.Goals as goal

pub returns-clause-leaves : goal.returns-clause-leaves
returns-clause-leaves c =
    let r = contents_of c.args.self.now in
    let wrote = record_from_parts r c.args.buffer.now _ _ c.copy_from_slice.ensures.after c.copy_from_slice-2.ensures.after c.if-buffer-last.false in
    written_there r c.args.buffer.now (sym c.if-not-is_in_limits.ensures) c.if-self-gt-ROOM.false c.if-buffer-last.false ∙ ap (λ (b : List ℕ). Ok b) (sym wrote)

pub returns-clause-back : goal.returns-clause-back
returns-clause-back c =
    let r = contents_of c.args.self.now in
    let wrote = record_from_parts r c.args.buffer.now _ _ c.copy_from_slice.ensures.after c.copy_from_slice-2.ensures.after c.if-buffer-last.false in
    read_back r c.args.buffer.now (sym c.if-not-is_in_limits.ensures) c.if-self-gt-ROOM.false _ _ (sym (length-spell r)) wrote
