-- The worked cases. Bytes are in hex; calls stand in the order in which they are made.
use Rattle.std.specs.Prelude.{ℕ, List, [], ◌∷◌, Some, None, Ok, Err}
use Rattle.refusals.specs.declared.Refusal.TheVariants.{Apart, CannotOrient, CannotEndThere}
use Rattle.histories.specs.declared.call.Call.TheVariants.{Bar, Step, Plan, Cut, Aim}
use Rattle.cases.specs.Case.{Case, job, move, number, bare, series, renumbered}

-- a half turn of 180 ticks; steps begin at 0 and 100 and rest at 40 and 150; turns 70 and 55
abbrev pub two_turns : List ℕ
two_turns = 0x01 ∷ 0xB4 ∷ 0x01 ∷ 0x02 ∷ 0x02 ∷ 0x00 ∷ 0x28 ∷ 0x64 ∷ 0x96 ∷ 0x01 ∷ 0x46 ∷ 0x37 ∷ []

-- the same with turn 70 alone
abbrev pub one_turn : List ℕ
one_turn = 0x01 ∷ 0xB4 ∷ 0x01 ∷ 0x02 ∷ 0x01 ∷ 0x00 ∷ 0x28 ∷ 0x64 ∷ 0x96 ∷ 0x01 ∷ 0x46 ∷ []

-- the same with turns 60 and 59: 40 + 60 is the edge of the second step, 40 + 59 is one below it
abbrev pub edge_turns : List ℕ
edge_turns = 0x01 ∷ 0xB4 ∷ 0x01 ∷ 0x02 ∷ 0x02 ∷ 0x00 ∷ 0x28 ∷ 0x64 ∷ 0x96 ∷ 0x01 ∷ 0x3C ∷ 0x3B ∷ []

-- trays of one row: three free cells; two with a wall between; one cell
abbrev pub three_cells : List ℕ
three_cells = 0x02 ∷ 0x01 ∷ 0x03 ∷ 0x2E ∷ 0x2E ∷ 0x2E ∷ []

abbrev pub walled_cells : List ℕ
walled_cells = 0x02 ∷ 0x01 ∷ 0x03 ∷ 0x2E ∷ 0x23 ∷ 0x2E ∷ []

abbrev pub one_cell : List ℕ
one_cell = 0x02 ∷ 0x01 ∷ 0x01 ∷ 0x2E ∷ []

-- three poses; gate 0 turns all of them by 1, gate 1 turns pose 2 alone by 1
abbrev pub gate_row : List ℕ
gate_row = 0x03 ∷ 0x03 ∷ 0x02 ∷ 0x07 ∷ 0x01 ∷ 0x04 ∷ 0x01 ∷ []

-- of a job: the sheet, the layer, the calls, the answers, the plan held after them and the pose in which it ends
abbrev pub worked_cases : List Case
worked_cases =
    -- one turn of the two brings both steps to the first; with the other alone they only change places
    job two_turns bare (Plan ∷ []) (Ok (Some 1) ∷ []) (Some (1 ∷ [])) (Some 0)
    ∷ job one_turn bare (Plan ∷ []) (Err CannotOrient ∷ []) None None
    -- an angle on the edge of a step belongs to it, one tick less does not
    ∷ move edge_turns 0 0 1
    ∷ move edge_turns 0 1 0
    -- east brings all to the last cell; from there west leads to the first cell, and nothing to the middle one
    ∷ job three_cells bare (Plan ∷ []) (Ok (Some 1) ∷ []) (Some (1 ∷ [])) (Some 2)
    ∷ job three_cells bare (Plan ∷ Aim 0 ∷ []) (Ok (Some 1) ∷ Ok (Some 2) ∷ []) (Some (1 ∷ 3 ∷ [])) (Some 0)
    ∷ job three_cells bare (Plan ∷ Aim 1 ∷ []) (Ok (Some 1) ∷ Err CannotEndThere ∷ []) (Some (1 ∷ [])) (Some 2)
    -- the same tray under one series, east and then north, and renumbered
    ∷ job three_cells (series ((1 ∷ 0 ∷ []) ∷ [])) (Plan ∷ []) (Ok (Some 1) ∷ []) (Some (0 ∷ [])) (Some 2)
    ∷ job three_cells (renumbered (2 ∷ 1 ∷ 0 ∷ [])) (Plan ∷ []) (Ok (Some 1) ∷ []) (Some (1 ∷ [])) (Some 0)
    -- no tilt brings a part past a wall
    ∷ job walled_cells bare (Plan ∷ []) (Err CannotOrient ∷ []) None None
    -- a plan of two rounds; without its first action two poses stay apart
    ∷ job gate_row bare (Plan ∷ []) (Ok (Some 4) ∷ []) (Some (1 ∷ 0 ∷ 0 ∷ 1 ∷ [])) (Some 0)
    ∷ job gate_row bare (Plan ∷ Cut 0 ∷ []) (Ok (Some 4) ∷ Err Apart ∷ []) (Some (1 ∷ 0 ∷ 0 ∷ 1 ∷ [])) (Some 0)
    -- one pose needs no action
    ∷ job one_cell bare (Plan ∷ []) (Ok (Some 0) ∷ []) (Some []) (Some 0)
    ∷ number 300 (0xAC ∷ 0x02 ∷ [])
    -- a bar makes all poses possible again, whatever was stepped before it; and north and south alone bring no two together
    ∷ job three_cells bare (Step 1 ∷ Bar 1 ∷ Bar 3 ∷ Plan ∷ []) (Ok None ∷ Ok None ∷ Ok None ∷ Err CannotOrient ∷ []) None None
    ∷ []
