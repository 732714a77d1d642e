-- A series layer keeps the rule of feeders, and the laws of a series layer.
use Rattle.std.specs.Prelude.{◌≡◌, ℕ, T, List, [], ◌∷◌, nat_lt, slice_index_or, refl}
use Rattle.std.proofs.Common.{sym, ◌∙◌, arith}
use Rattle.std.proofs.lemmas.Bool.{cond_both, ltb-true}
use Rattle.feeders.specs.Motion.{Motion, Valid, brings}
use Rattle.feeders.specs.Sets.{has, all_below}
use Rattle.feeders.specs.Image.{image}
use Rattle.feeders.proofs.Sets.{sets_ext_T, all_below_cons, all_below-append}
use Rattle.feeders.proofs.Images.{brings-append, brings_stays, has-image}
use Rattle.layers.specs.Series.{Keeps, present, performs, series_motion, unrolled, SeriesLaws}

-- the entries that are performed are actions of the feeder below
pub present-below : (k : ℕ) (w : List ℕ) → T (all_below k (present k w))
present-below k [] = tt
present-below k (a ∷ w) =
    cond_both (nat_lt a k) (a ∷ present k w) (present k w) (λ v. T (all_below k v))
    (λ e. (all_below_cons k a (present k w)).1 (ltb-true a k e, present-below k w)) (λ _. present-below k w)

pub series_valid : (m : Motion) (ss : List (List ℕ)) → Valid m → Keeps ss → Valid (series_motion m ss)
series_valid m ss v k = record {
  some_pose = v.some_pose;
  few_poses = v.few_poses;
  some_action = k.some;
  few_actions = omega (arith, k.few);
  stays = λ p i hp hi. brings_stays m v p (performs m ss i) hp (present-below m.actions (slice_index_or ss i []));
}

brings-unrolled : (m : Motion) (ss : List (List ℕ)) (p : ℕ) (w : List ℕ) → brings (series_motion m ss) p w ≡ brings m p (unrolled m ss w)
brings-unrolled m ss p [] = refl
brings-unrolled m ss p (i ∷ w) =
    brings-unrolled m ss (brings m p (performs m ss i)) w ∙ sym (brings-append m p (performs m ss i) (unrolled m ss w))

unrolled-below : (m : Motion) (ss : List (List ℕ)) (w : List ℕ) → T (all_below m.actions (unrolled m ss w))
unrolled-below m ss [] = tt
unrolled-below m ss (i ∷ w) =
    (all_below-append m.actions (performs m ss i) (unrolled m ss w)).1 (present-below m.actions (slice_index_or ss i []), unrolled-below m ss w)

-- two motions over the same poses that bring each pose to the same place have the same images
image_same : (m n : Motion) (s : ℕ) (v w : List ℕ) → m.poses ≡ n.poses → ((p : ℕ) → brings m p v ≡ brings n p w) → (q : ℕ) → T (has (image m s v) q) → T (has (image n s w) q)
image_same m n s v w e same q t =
    let r = (has-image m s v q).0 t in
    (has-image n s w q).1 (r.0, omega (arith, r.1), r.2, sym (same r.0) ∙ r.3)

pub series_laws : (m : Motion) (ss : List (List ℕ)) → SeriesLaws m ss
series_laws m ss = record {
  carries = brings-unrolled m ss;
  images = λ s w. sets_ext_T (image (series_motion m ss) s w) (image m s (unrolled m ss w))
      (image_same (series_motion m ss) m s w (unrolled m ss w) refl (λ p. brings-unrolled m ss p w))
      (image_same m (series_motion m ss) s (unrolled m ss w) w refl (λ p. sym (brings-unrolled m ss p w)));
  exists = unrolled-below m ss;
}
