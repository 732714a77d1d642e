-- What a worked case says, and when it holds.
use Rattle.std.specs.Prelude.{◌≡◌, ℕ, zero, suc, cond, List, [], ◌∷◌, ◌++◌, reverse, length, Some, None, Ok, Option, ◌==◌, slice_index_or}
use Rattle.feeders.specs.Motion.{Motion, follows}
use Rattle.numbers.specs.Number.{spell, number_at}
use Rattle.sheets.specs.Described.{Described, described, motion_of}
use Rattle.layers.specs.Series as series_layer
use Rattle.layers.specs.Renumbering as number_layer
use Rattle.layers.specs.Numbered.{Filled}
use Rattle.histories.specs.History.{EndsAt}
use Rattle.histories.specs.Rules.{Plans, Answer, Rule}
use Rattle.histories.specs.declared.call.Call.{Call}

-- What lies over the feeder that a sheet describes: nothing, one layer of series, or one renumbering by a list.
pub data Layer : Type 0 where
  bare : Layer
  series : List (List ℕ) → Layer
  renumbered : List ℕ → Layer

-- f 0, f 1 and so on, n of them
abbrev pub listed : (ℕ → ℕ) → ℕ → List ℕ
listed f zero = []
listed f (suc n) = listed f n ++ (f n ∷ [])

-- the first place at which q stands
abbrev pub place_of : ℕ → List ℕ → ℕ
place_of q [] = 0
place_of q (x ∷ w) = cond (x == q) 0 (suc (place_of q w))

-- the renumbering table of 32 places that the list fills: past the list each place holds its own number
abbrev pub numbering : List ℕ → number_layer.Numbering
numbering list =
    record { count = length list; number = listed (λ p. slice_index_or list p p) 32; place = listed (λ q. place_of q (listed (λ p. slice_index_or list p p) 32)) 32 }

-- the motion of a feeder under the layer
abbrev pub under : Layer → Motion → Motion
under bare m = m
under (series ss) m = series_layer.series_motion m ss
under (renumbered list) m = number_layer.renumbered_motion m (numbering list)

-- the layer keeps the rule of its table, and a renumbering table is filled by its list
abbrev pub Stands : Layer → Type 0
Stands bare = Unit {0}
Stands (series ss) = series_layer.Keeps ss
Stands (renumbered list) = number_layer.Keeps (numbering list) × Filled list (numbering list)

-- The calls, made in their order after the history h with the plan `before`, are answered so, each by the rules, and leave the plan `after`.
pub data Answered (m : Motion) : List Call → Plans → List Call → List Answer → Plans → Type 0 where
  stop : {h : List Call} {plan : Plans} → Answered m h plan [] [] plan
  more : {h calls : List Call} {before between after : Plans} {c : Call} {r : Answer} {answers : List Answer} → Rule m h before c between r → Answered m (c ∷ h) between calls answers after → Answered m h before (c ∷ calls) (r ∷ answers) after

-- the plan that is held after the history h ends in the pose; where none is held, in none
abbrev pub Ends : Motion → List Call → Plans → Option ℕ → Type 0
Ends m h None None = Unit {0}
Ends m h None (Some e) = ⊥
Ends m h (Some w) None = ⊥
Ends m h (Some w) (Some e) = EndsAt m h e w

-- a worked case
pub data Case : Type 0 where
  -- On a new job over the feeder of the sheet, under the layer, the calls made in their order are answered so.
  -- Then this plan is held, and it ends in this pose.
  job : (sheet : List ℕ) (layer : Layer) (calls : List Call) (answers : List Answer) (plan : Plans) (end : Option ℕ) → Case
  -- on the feeder of the sheet the pose goes to the pose `to` under the action
  move : (sheet : List ℕ) (pose action to : ℕ) → Case
  -- the number is spelled so
  number : (value : ℕ) (bytes : List ℕ) → Case

-- On a new job over a feeder with the motion m the calls are answered so, and the plan that is held after them ends so.
pub record JobHolds (m : Motion) (calls : List Call) (answers : List Answer) (plan : Plans) (end : Option ℕ) : Type 0 where
  pub answered : Answered m [] None calls answers plan
  pub ends : Ends m (reverse calls) plan end

-- the case is as it says: the sheet describes a feeder, and what is said of it holds
abbrev pub Holds : Case → Type 0
Holds (job sheet layer calls answers plan end) =
    (d : Described) × (described sheet ≡ Ok d) × Stands layer × JobHolds (under layer (motion_of d)) calls answers plan end
Holds (move sheet pose action to) = (d : Described) × (described sheet ≡ Ok d) × (follows (motion_of d) pose action ≡ Ok to)
Holds (number value bytes) = (spell value ≡ bytes) × (number_at bytes ≡ Ok (record { value = value; rest = [] }))

-- every case of the list holds
abbrev pub AllHold : List Case → Type 0
AllHold [] = Unit {0}
AllHold (c ∷ cs) = Holds c × AllHold cs
