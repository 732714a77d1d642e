-- Each way out is what list_at comes to after the actions that were counted.
use Rattle.std.proofs.Common.{◌<◌, get_or, ◌∙◌, rules}
use Rattle.records.proofs.Lists.{counted_full, list_counted}
use Rattle.records.proofs.Steps.{list_cut, list_ended, list_left_over, list_outside, list_too_long}
use Rattle.records.proofs.reading.list_in.Goals as goal

pub returns-in_default : goal.returns-in_default
returns-in_default c =
    let from = list_counted c.args.actions c.args.rest.now _ c.actions_in-count.ensures.counts _ _ c.requires c.split_at.ensures.front c.split_at.ensures.back in
    rw c.fault_at.ensures (from ∙ list_cut _ _ _ _ c.split_at.ensures.front_len c.in_default.len_below)

pub returns-then-from-actions : goal.returns-then-from-actions
returns-then-from-actions c =
    let from = list_counted c.args.actions c.args.rest.now _ c.actions_in-count.ensures.counts _ _ c.requires c.split_at.ensures.front c.split_at.ensures.back in
    let lt : get_or c.split_at.result.1.now 0 0 < c.args.actions = search rules in
    let full = counted_full c.args.actions c.args.rest.now _ c.actions_in-count.ensures.counts _ c.split_at.ensures.back c.in-len1-up.len_at_least lt in
    rw c.fault_at-then-from-actions.ensures (from ∙ list_too_long _ _ _ _ c.requires c.split_at.ensures.front_len c.in-len1-up.len_at_least lt full)

pub returns-then-byte-ne-END : goal.returns-then-byte-ne-END
returns-then-byte-ne-END c =
    let from = list_counted c.args.actions c.args.rest.now _ c.actions_in-count.ensures.counts _ _ c.requires c.split_at.ensures.front c.split_at.ensures.back in
    rw c.fault_at-then-byte-ne-END.ensures (from ∙ list_outside _ _ _ _ c.split_at.ensures.front_len c.in-len1-up.len_at_least c.if-byte-ne-END.true (search rules))

pub returns-then-not-is_empty : goal.returns-then-not-is_empty
returns-then-not-is_empty c =
    let from = list_counted c.args.actions c.args.rest.now _ c.actions_in-count.ensures.counts _ _ c.requires c.split_at.ensures.front c.split_at.ensures.back in
    rw c.fault_at-then-not-is_empty.ensures (from ∙ list_left_over _ _ _ c.split_at.result.1.now c.split_at.ensures.front_len (search rules) c.if-byte-ne-END.false)

pub returns : goal.returns
returns c =
    let from = list_counted c.args.actions c.args.rest.now _ c.actions_in-count.ensures.counts _ _ c.requires c.split_at.ensures.front c.split_at.ensures.back in
    from ∙ list_ended _ _ c.split_at.result.1.now (search rules) c.if-byte-ne-END.false
