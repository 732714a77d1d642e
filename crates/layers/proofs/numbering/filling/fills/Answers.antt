-- A list that is short enough fills a table exactly where each number stands in it once.
use Rattle.layers.proofs.numbering.filling.fills.Goals as goal

pub returns-then-list-le-PLACES : goal.returns-then-list-le-PLACES
returns-then-list-le-PLACES c =
    (λ t. record { few = c.if-list-le-PLACES.true; once = c.once_each.ensures.0 t }, λ f. c.once_each.ensures.1 f.once)
