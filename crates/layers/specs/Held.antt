-- What a table of series holds, and what its calls make of it.
use Rattle.std.specs.Prelude.{◌≡◌, ℕ, ◌<◌, Bool, cond, ◌&&◌, T, List, [], ◌∷◌, ◌++◌, map, length, replicate, Ok, Err, Result, nat_le, nat_lt, slice_index_or, slice_set}
use Rattle.std.proofs.Common.{ap, ◌∙◌}
use Rattle.std.proofs.lemmas.List.{length-map, get_or-map}
use Rattle.refusals.specs.declared.Refusal.{Refusal}
use Rattle.refusals.specs.declared.Refusal.TheVariants.{OutsideLimit}
use Rattle.feeders.specs.Sets.{all_below}
use Rattle.lists.specs.Held.{list_of}
use Rattle.lists.specs.declared.bounded.Bounded.{Bounded}
use Rattle.layers.specs.Series.{Keeps}
use Rattle.layers.specs.declared.series_table.SeriesTable.{SeriesTable}

-- the series of the rows, each the actions that its row holds
abbrev pub series_of : SeriesTable → List (List ℕ)
series_of t = map list_of (list_of t.rows)

-- what a table of `count` series holds at first: 1 to 16 series without actions
abbrev pub resized : ℕ → Result (List (List ℕ)) Refusal
resized count = cond (nat_le 1 count && nat_le count 16) (Ok (replicate count [])) (Err OutsideLimit)

-- Refused are a series that is not there, an action that no feeder has, and a ninth entry.
abbrev pub lengthens : List (List ℕ) → ℕ → ℕ → Bool
lengthens ss i a = nat_lt i (length ss) && (nat_lt a 32 && nat_lt (length (slice_index_or ss i [])) 8)

-- The action goes to the end of series i.
abbrev pub lengthened : List (List ℕ) → ℕ → ℕ → Result (List (List ℕ)) Refusal
lengthened ss i a = cond (lengthens ss i a) (Ok (slice_set ss i (slice_index_or ss i [] ++ (a ∷ [])))) (Err OutsideLimit)

-- ---- every table keeps the rule

pub length-series_of : (t : SeriesTable) → length (series_of t) ≡ length (list_of t.rows)
length-series_of t = length-map (list_of t.rows) list_of

-- series i is what row i holds
pub get_or-series_of : (t : SeriesTable) (i : ℕ) (blank : Bounded ℕ 8) → i < length (list_of t.rows) → slice_index_or (series_of t) i [] ≡ list_of (slice_index_or (list_of t.rows) i blank)
get_or-series_of t i blank h = get_or-map list_of (list_of t.rows) i blank [] h

pub series_length : (t : SeriesTable) (i : ℕ) (blank : Bounded ℕ 8) → i < length (list_of t.rows) → length (slice_index_or (series_of t) i []) ≡ length (list_of (slice_index_or (list_of t.rows) i blank))
series_length t i blank h = ap length (get_or-series_of t i blank h)

pub series_entries : (t : SeriesTable) (i : ℕ) → i < length (series_of t) → T (all_below 32 (slice_index_or (series_of t) i []))
series_entries t = t.keeps.entries

pub series_kept : (t : SeriesTable) → Keeps (series_of t)
series_kept t = t.keeps
