-- The ways of the pose grounds bring a pose to the goal, with few actions.
use Rattle.std.proofs.Common.{◌≡◌, ℕ, T, eqb, List, [], ◌∷◌, length, sym, refl, subst, arith, eqb→eq}
use lib.Dec.{eqb_refl}
use Rattle.feeders.specs.Motion.{Motion, Valid, brings}
use Rattle.graphs.specs.Graph.{walk}
use Rattle.graphs.specs.Distance.{AllUsable, Leads}
use Rattle.graphs.specs.Poses.{pose_graph}
use Rattle.graphs.specs.Pairs.{pair_graph}
use Rattle.graphs.specs.PoseLaws.{PoseLaws}
use Rattle.graphs.proofs.Distances.{way_leads, way_distance}
use Rattle.graphs.proofs.Bounds.{distance_below}
use Rattle.graphs.proofs.Numbering.{pose_sound}

-- ---- the same actions are usable on both grounds, and a walk is where the actions bring the pose

pose_pair_usable : (m : Motion) (perm q : ℕ) (w : List ℕ) → AllUsable (pose_graph m q) perm w → AllUsable (pair_graph m) perm w
pose_pair_usable m perm q [] u = tt
pose_pair_usable m perm q (a ∷ w) u = (u.0, pose_pair_usable m perm q w u.1)

pair_pose_usable : (m : Motion) (perm q : ℕ) (w : List ℕ) → AllUsable (pair_graph m) perm w → AllUsable (pose_graph m q) perm w
pair_pose_usable m perm q [] u = tt
pair_pose_usable m perm q (a ∷ w) u = (u.0, pair_pose_usable m perm q w u.1)

walk-brings : (m : Motion) (q p : ℕ) (w : List ℕ) → walk (pose_graph m q) p w ≡ brings m p w
walk-brings m q p [] = refl
walk-brings m q p (a ∷ w) = walk-brings m q (m.next p a) w

-- ---- lists that lead to the goal are those that bring the pose there

pub leads_brings : (m : Motion) (perm p q : ℕ) (w : List ℕ) → Leads (pose_graph m q) perm p w → AllUsable (pair_graph m) perm w × (brings m p w ≡ q)
leads_brings m perm p q w l =
    (pose_pair_usable m perm q w l.0, subst (λ (k : ℕ). k ≡ q) (walk-brings m q p w) (eqb→eq (walk (pose_graph m q) p w) q l.1))

pub brings_leads : (m : Motion) (perm p q : ℕ) (w : List ℕ) → AllUsable (pair_graph m) perm w → brings m p w ≡ q → Leads (pose_graph m q) perm p w
brings_leads m perm p q w u e =
    (pair_pose_usable m perm q w u, subst (λ (k : ℕ). T (eqb k q)) (sym (walk-brings m q p w)) (subst (λ (k : ℕ). T (eqb (brings m p w) k)) e (eqb_refl (brings m p w))))

pub pose_laws : (m : Motion) (perm : ℕ) → Valid m → PoseLaws m perm
pose_laws m perm ok = record {
  ends = λ from goal w h l y. leads_brings m perm from goal w (way_leads (pose_graph m goal) perm from w y);
  short = λ from goal w h l y. omega (arith, distance_below (pose_graph m goal) perm from (length w) (pose_sound m goal ok) h (way_distance (pose_graph m goal) perm from w y));
  never = λ from goal w h l n u e. n w (brings_leads m perm from goal w u e);
}
