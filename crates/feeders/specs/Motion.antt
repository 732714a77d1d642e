-- The meaning of a feeder: how many poses and actions it has, and which pose follows which.
use Rattle.std.specs.Prelude.{◌≡◌, ℕ, ◌<◌, ◌≤◌, cond, List, [], ◌∷◌, Ok, Err, Result, nat_lt}
use Rattle.refusals.specs.declared.Refusal.{Refusal}
use Rattle.refusals.specs.declared.Refusal.TheVariants.{NoPose, NoAction}

-- Poses and actions are counted from 0; `next p a` is the pose that follows pose p under action a.
pub record Motion : Type 0 where
  pub poses : ℕ
  pub actions : ℕ
  pub next : ℕ → ℕ → ℕ

-- What every feeder keeps: 1 to 32 poses, 1 to 32 actions, and no action leaves the poses.
pub record Valid (m : Motion) : Type 0 where
  pub some_pose : 1 ≤ m.poses
  pub few_poses : m.poses ≤ 32
  pub some_action : 1 ≤ m.actions
  pub few_actions : m.actions ≤ 32
  pub stays : (p a : ℕ) → p < m.poses → a < m.actions → m.next p a < m.poses

-- The answer to "which pose follows p under a": an absent pose is refused first, then an absent action.
abbrev pub follows : Motion → ℕ → ℕ → Result ℕ Refusal
follows m p a = cond (nat_lt p m.poses) (cond (nat_lt a m.actions) (Ok (m.next p a)) (Err NoAction)) (Err NoPose)

-- The pose to which a list of actions, performed in order, brings pose p.
abbrev pub brings : Motion → ℕ → List ℕ → ℕ
brings m p [] = p
brings m p (a ∷ w) = brings m (m.next p a) w

-- Two feeders are the same: n, k and every move agree.
pub record Same (m n : Motion) : Type 0 where
  pub poses : m.poses ≡ n.poses
  pub actions : m.actions ≡ n.actions
  pub moves : (p a : ℕ) → p < m.poses → a < m.actions → m.next p a ≡ n.next p a
