-- The words of the guarantee, from a feeder's motion and the calls made so far. A history is the list of the calls, refused ones too, the newest first.
use Rattle.std.specs.Prelude.{◌≡◌, ℕ, zero, suc, ◌^◌, Bool, true, false, cond, not, ◌&&◌, T, List, [], ◌∷◌, ◌++◌, ◌==◌, nat_lt}
use Rattle.feeders.specs.Motion.{Motion}
use Rattle.feeders.specs.Sets.{with}
use Rattle.feeders.specs.Image.{image}
use Rattle.graphs.specs.PairRule.{One, every}
use Rattle.histories.specs.declared.call.Call.{Call}
use Rattle.histories.specs.declared.call.Call.TheVariants.{Bar, Allow, Shake, Step, Plan, Put, Add, Cut, Aim}

-- the newest call that bars or allows action a is a bar
abbrev pub barred : List Call → ℕ → Bool
barred [] a = false
barred (Bar b ∷ h) a = cond (b == a) true (barred h a)
barred (Allow b ∷ h) a = cond (b == a) false (barred h a)
barred (Shake ∷ h) a = barred h a
barred (Step b ∷ h) a = barred h a
barred (Plan ∷ h) a = barred h a
barred (Put w ∷ h) a = barred h a
barred (Add b ∷ h) a = barred h a
barred (Cut n ∷ h) a = barred h a
barred (Aim q ∷ h) a = barred h a

-- action a is permitted: the feeder has it, and it is not barred
abbrev pub permits : Motion → List Call → ℕ → Bool
permits m h a = nat_lt a m.actions && not (barred h a)

-- The steps of permitted actions, in their order, since the latest of these: a bar or allow of an action that the feeder has, a shake, the start.
abbrev pub steps : Motion → List Call → List ℕ
steps m [] = []
steps m (Bar b ∷ h) = cond (nat_lt b m.actions) [] (steps m h)
steps m (Allow b ∷ h) = cond (nat_lt b m.actions) [] (steps m h)
steps m (Shake ∷ h) = []
steps m (Step a ∷ h) = cond (permits m h a) (steps m h ++ (a ∷ [])) (steps m h)
steps m (Plan ∷ h) = steps m h
steps m (Put w ∷ h) = steps m h
steps m (Add b ∷ h) = steps m h
steps m (Cut n ∷ h) = steps m h
steps m (Aim q ∷ h) = steps m h

-- the possible poses, as a set: where those steps bring all poses
abbrev pub possible : Motion → List Call → ℕ
possible m h = image m (every m) (steps m h)

-- the numbers below n that pass the test, as a set
abbrev pub set_below : (ℕ → Bool) → ℕ → ℕ
set_below test zero = 0
set_below test (suc n) = cond (test n) (with (set_below test n) n) (set_below test n)

-- the permitted actions, as a set
abbrev pub permitted : Motion → List Call → ℕ
permitted m h = set_below (permits m h) m.actions

-- every action of the list is permitted
abbrev pub Permitted : Motion → List Call → List ℕ → Type 0
Permitted m h [] = Unit {0}
Permitted m h (a ∷ w) = T (permits m h a) × Permitted m h w

-- the list has permitted actions only, and brings all possible poses to one
abbrev pub Orients : Motion → List Call → List ℕ → Type 0
Orients m h w = Permitted m h w × One (image m (possible m h) w)

-- the same, and that one is pose q
abbrev pub EndsAt : Motion → List Call → ℕ → List ℕ → Type 0
EndsAt m h q w = Permitted m h w × (image m (possible m h) w ≡ 2 ^ q)
