-- The rules of the calls, each by tests that compute.
use Rattle.std.proofs.Common.{◌≡◌, ℕ, ◌+◌, ◌^◌, ◌<◌, Bool, not, ◌&&◌, T, eqb, ltb, leb, List, ◌++◌, length, Some, Ok, Err, sym, refl, subst, eqb→eq, ltb→lt, leb→le, T_not}
use Rattle.refusals.specs.declared.Refusal.TheVariants.{Apart, CannotOrient, CannotEndThere}
use Rattle.feeders.specs.Motion.{Motion, Valid}
use Rattle.feeders.specs.Image.{image}
use Rattle.graphs.specs.Certificate.{none, told, every_below, passes}
use Rattle.graphs.specs.Pairs.{pair_graph}
use Rattle.graphs.specs.PairRule.{size_of}
use Rattle.graphs.specs.Poses.{pose_graph}
use Rattle.graphs.proofs.Numbering.{pose_sound}
use Rattle.graphs.proofs.Certificates.{every_below_each, passes_sound, passes_none}
use Rattle.histories.specs.History.{permitted, possible}
use Rattle.histories.specs.Rules.{Plans, Rule, plan_stuck, plan_done, cut_apart, aim_never, aim_done, without}
use Rattle.histories.specs.declared.call.Call.{Call}
use Rattle.histories.specs.declared.call.Call.TheVariants.{Plan, Cut, Aim}
use Rattle.histories.proofs.Words.{T_and}
use Rattle.cases.proofs.Ways.{is_way, way_sound}
use Rattle.cases.proofs.Rounds.{Round, joined, is_plan, is_stuck, plan_sound, stuck_sound}

-- ---- a feeder

abbrev pub is_valid : Motion → Bool
is_valid m =
    (leb 1 m.poses && leb m.poses 32)
    && ((leb 1 m.actions && leb m.actions 32) && every_below m.poses (λ p. every_below m.actions (λ a. ltb (m.next p a) m.poses)))

pub valid_sound : (m : Motion) → T (is_valid m) → Valid m
valid_sound m t =
    let k = (T_and (leb 1 m.poses && leb m.poses 32) _).0 t in
    let poses = (T_and (leb 1 m.poses) (leb m.poses 32)).0 k.0 in
    let l = (T_and (leb 1 m.actions && leb m.actions 32) _).0 k.1 in
    let actions = (T_and (leb 1 m.actions) (leb m.actions 32)).0 l.0 in
    record {
      some_pose = leb→le 1 m.poses poses.0;
      few_poses = leb→le m.poses 32 poses.1;
      some_action = leb→le 1 m.actions actions.0;
      few_actions = leb→le m.actions 32 actions.1;
      stays = λ p a hp ha.
          let row = every_below_each m.poses (λ p. every_below m.actions (λ a. ltb (m.next p a) m.poses)) l.1 p hp in
          ltb→lt (m.next p a) m.poses (every_below_each m.actions (λ a. ltb (m.next p a) m.poses) row a ha);
    }

-- ---- the calls plan and aim, by a table of distances

module _ (m : Motion) (h : List Call) (before : Plans) (table : List ℕ) (rounds : List Round) (ok : T (is_valid m)) (pass : T (passes (pair_graph m) (permitted m h) table)) where
  pub plan_by : T (is_plan m (permitted m h) table (possible m h) rounds) → Rule m h before Plan (Some (joined rounds)) (Ok (Some (length (joined rounds))))
  plan_by t =
      plan_done (plan_sound m (permitted m h) table (valid_sound m ok) (passes_sound (pair_graph m) (permitted m h) table pass) (possible m h) rounds t)

  pub stuck_by : T (is_stuck m (permitted m h) table (possible m h) rounds) → Rule m h before Plan before (Err CannotOrient)
  stuck_by t =
      plan_stuck (stuck_sound m (permitted m h) table (valid_sound m ok) (passes_sound (pair_graph m) (permitted m h) table pass) (possible m h) rounds t)

-- the plan w ends in pose e
module _ (m : Motion) (h : List Call) (w : List ℕ) (q e : ℕ) (table : List ℕ) (ok : T (is_valid m)) (pass : T (passes (pose_graph m q) (permitted m h) table)) (there : T (ltb q m.poses && ltb e m.poses)) (ends : image m (possible m h) w ≡ 2 ^ e) where
  inside : (q < m.poses) × (e < m.poses)
  inside = let k = (T_and (ltb q m.poses) (ltb e m.poses)).0 there in (ltb→lt q m.poses k.0, ltb→lt e m.poses k.1)

  pub aim_by : (u : List ℕ) → T (is_way (pose_graph m q) (permitted m h) table e u) → T (leb (length w + length u) 16384) → Rule m h (Some w) (Aim q) (Some (w ++ u)) (Ok (Some (length (w ++ u))))
  aim_by u t short =
      aim_done e refl inside.0 ends
      (way_sound (pose_graph m q) (permitted m h) table (pose_sound m q (valid_sound m ok)) (passes_sound (pose_graph m q) (permitted m h) table pass) e u inside.1 t)
      (leb→le (length w + length u) 16384 short)

  pub never_by : T (eqb (told table e) none) → Rule m h (Some w) (Aim q) (Some w) (Err CannotEndThere)
  never_by t =
      aim_never e refl inside.0 ends
      (passes_none (pose_graph m q) (permitted m h) table e (pose_sound m q (valid_sound m ok)) (passes_sound (pose_graph m q) (permitted m h) table pass) inside.1 (eqb→eq (told table e) none t))

-- ---- the call cut

pub apart_by : (m : Motion) (h : List Call) (w : List ℕ) (n : ℕ) → T (ltb n (length w)) → T (not (eqb (size_of (image m (possible m h) (without w n))) 1)) → Rule m h (Some w) (Cut n) (Some w) (Err Apart)
apart_by m h w n there t =
    cut_apart refl (ltb→lt n (length w) there)
    (λ one. T_not (eqb (size_of (image m (possible m h) (without w n))) 1) t (subst (λ (k : ℕ). T (eqb k 1)) (sym one) tt))
