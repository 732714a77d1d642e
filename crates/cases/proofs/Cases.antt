-- The worked cases, by tables of distances (65535 where there is none) and the rounds of the pair rule.
use Rattle.std.proofs.Common.{ℕ, Bool, true, false, List, [], ◌∷◌, length, Some, None, Ok, Err, refl, lit<, lit≤}
use Rattle.refusals.specs.declared.Refusal.TheVariants.{Apart, CannotOrient, CannotEndThere}
use Rattle.feeders.specs.Motion.{Motion}
use Rattle.graphs.specs.Certificate.{none}
use Rattle.sheets.specs.Described.{Described, jaws, tray, row, motion_of}
use Rattle.layers.specs.Numbered.{Filled}
use Rattle.histories.specs.Rules.{Rule, bar_done, step_done}
use Rattle.histories.specs.declared.call.Call.TheVariants.{Bar, Step, Plan, Cut, Aim}
use Rattle.cases.specs.Case.{series, renumbered, numbering, under, stop, more, AllHold}
use Rattle.cases.specs.Worked.{worked_cases}
use Rattle.cases.proofs.Layers.{series_sound, numbering_sound, own_sound, once_sound}
use Rattle.cases.proofs.Rounds.{Round}
use Rattle.cases.proofs.Rules.{plan_by, stuck_by, aim_by, never_by, apart_by}

-- ---- what the sheets describe

-- the half turn of 180 ticks
abbrev turning : List ℕ → Described
turning turns = jaws (record { ticks = 180; steps = record { begin = 0; rest = 40 } ∷ record { begin = 100; rest = 150 } ∷ []; turns = turns })

-- a tray of one row
abbrev line : List Bool → Described
line cells = tray (record { rows = 1; columns = length cells; cells = cells })

abbrev three : Motion
three = motion_of (line (true ∷ true ∷ true ∷ []))

abbrev gates : Described
gates = row (record { poses = 3; gates = record { set = 7; turn = 1 } ∷ record { set = 4; turn = 1 } ∷ [] })

-- ---- layers

abbrev east_north : List (List ℕ)
east_north = (1 ∷ 0 ∷ []) ∷ []

abbrev backwards : List ℕ
backwards = 2 ∷ 1 ∷ 0 ∷ []

backwards_filled : Filled backwards (numbering backwards)
backwards_filled = record {
  fills = record { few = lit≤ tt; once = once_sound backwards tt };
  counted = refl;
  front = refl;
  own = own_sound 3 (numbering backwards).number tt;
}

-- ---- the calls; a plan's rounds are its pairs, each with its way

abbrev round : ℕ → ℕ → List ℕ → Round
round p q w = record { lesser = p; greater = q; way = w }

turned : Rule (motion_of (turning (70 ∷ 55 ∷ []))) [] None Plan (Some (1 ∷ [])) (Ok (Some 1))
turned = plan_by (motion_of (turning (70 ∷ 55 ∷ []))) [] None (1 ∷ 0 ∷ []) (round 0 1 (1 ∷ []) ∷ []) tt tt tt

swapped : Rule (motion_of (turning (70 ∷ []))) [] None Plan None (Err CannotOrient)
swapped = stuck_by (motion_of (turning (70 ∷ []))) [] None (none ∷ 0 ∷ []) [] tt tt tt

slid : Rule three [] None Plan (Some (1 ∷ [])) (Ok (Some 1))
slid = plan_by three [] None (1 ∷ 1 ∷ 1 ∷ 0 ∷ []) (round 0 1 (1 ∷ []) ∷ []) tt tt tt

slid_back : Rule three (Plan ∷ []) (Some (1 ∷ [])) (Aim 0) (Some (1 ∷ 3 ∷ [])) (Ok (Some 2))
slid_back = aim_by three (Plan ∷ []) (1 ∷ []) 0 2 (0 ∷ 1 ∷ 1 ∷ []) tt tt tt refl (3 ∷ []) tt tt

not_between : Rule three (Plan ∷ []) (Some (1 ∷ [])) (Aim 1) (Some (1 ∷ [])) (Err CannotEndThere)
not_between = never_by three (Plan ∷ []) (1 ∷ []) 1 2 (none ∷ 0 ∷ none ∷ []) tt tt tt refl tt

in_series : Rule (under (series east_north) three) [] None Plan (Some (0 ∷ [])) (Ok (Some 1))
in_series = plan_by (under (series east_north) three) [] None (1 ∷ 1 ∷ 1 ∷ 0 ∷ []) (round 0 1 (0 ∷ []) ∷ []) tt tt tt

turned_round : Rule (under (renumbered backwards) three) [] None Plan (Some (1 ∷ [])) (Ok (Some 1))
turned_round = plan_by (under (renumbered backwards) three) [] None (1 ∷ 1 ∷ 1 ∷ 0 ∷ []) (round 0 1 (1 ∷ []) ∷ []) tt tt tt

walled : Rule (motion_of (line (true ∷ false ∷ true ∷ []))) [] None Plan None (Err CannotOrient)
walled = stuck_by (motion_of (line (true ∷ false ∷ true ∷ []))) [] None (none ∷ 0 ∷ []) [] tt tt tt

gated : Rule (motion_of gates) [] None Plan (Some (1 ∷ 0 ∷ 0 ∷ 1 ∷ [])) (Ok (Some 4))
gated = plan_by (motion_of gates) [] None (3 ∷ 1 ∷ 2 ∷ 0 ∷ []) (round 0 2 (1 ∷ []) ∷ round 0 1 (0 ∷ 0 ∷ 1 ∷ []) ∷ []) tt tt tt

cut : Rule (motion_of gates) (Plan ∷ []) (Some (1 ∷ 0 ∷ 0 ∷ 1 ∷ [])) (Cut 0) (Some (1 ∷ 0 ∷ 0 ∷ 1 ∷ [])) (Err Apart)
cut = apart_by (motion_of gates) (Plan ∷ []) (1 ∷ 0 ∷ 0 ∷ 1 ∷ []) 0 tt tt

at_rest : Rule (motion_of (line (true ∷ []))) [] None Plan (Some []) (Ok (Some 0))
at_rest = plan_by (motion_of (line (true ∷ []))) [] None (0 ∷ []) [] tt tt tt

barred : Rule three (Bar 3 ∷ Bar 1 ∷ Step 1 ∷ []) None Plan None (Err CannotOrient)
barred = stuck_by three (Bar 3 ∷ Bar 1 ∷ Step 1 ∷ []) None (none ∷ none ∷ none ∷ 0 ∷ []) [] tt tt tt

-- ---- the cases

-- one case in front of the others
infixr 20 ◌and◌
◌and◌ : {A B : Type 0} → A → B → A × B
a and b = (a, b)

pub worked : AllHold worked_cases
worked =
    (turning (70 ∷ 55 ∷ []), refl, tt, record { answered = more turned stop; ends = ((tt, tt), refl) })
    and (turning (70 ∷ []), refl, tt, record { answered = more swapped stop; ends = tt })
    and (turning (60 ∷ 59 ∷ []), refl, refl)
    and (turning (60 ∷ 59 ∷ []), refl, refl)
    and (line (true ∷ true ∷ true ∷ []), refl, tt, record { answered = more slid stop; ends = ((tt, tt), refl) })
    and (line (true ∷ true ∷ true ∷ []), refl, tt, record { answered = more slid (more slid_back stop); ends = ((tt, (tt, tt)), refl) })
    and (line (true ∷ true ∷ true ∷ []), refl, tt, record { answered = more slid (more not_between stop); ends = ((tt, tt), refl) })
    and (line (true ∷ true ∷ true ∷ []), refl, series_sound east_north tt, record { answered = more in_series stop; ends = ((tt, tt), refl) })
    and (line (true ∷ true ∷ true ∷ []), refl, (numbering_sound (numbering backwards) tt, backwards_filled), record { answered = more turned_round stop; ends = ((tt, tt), refl) })
    and (line (true ∷ false ∷ true ∷ []), refl, tt, record { answered = more walled stop; ends = tt })
    and (gates, refl, tt, record { answered = more gated stop; ends = ((tt, (tt, (tt, (tt, tt)))), refl) })
    and (gates, refl, tt, record { answered = more gated (more cut stop); ends = ((tt, (tt, (tt, (tt, tt)))), refl) })
    and (line (true ∷ []), refl, tt, record { answered = more at_rest stop; ends = (tt, refl) })
    and (refl, refl)
    and (line (true ∷ true ∷ true ∷ []), refl, tt, record { answered = more (step_done tt) (more (bar_done (lit< tt)) (more (bar_done (lit< tt)) (more barred stop))); ends = tt })
    and tt
