-- The limits of a record, one by one.
use Rattle.std.proofs.Common.{◌≡◌, ◌<◌, ◌≤◌, true, T, arith}
use Rattle.std.proofs.lemmas.Bool.Decides.{nat_tests}
use Rattle.feeders.proofs.Sets.{T_of_true, true_of_T}
use Rattle.feeders.specs.Sets.{all_below}
use Rattle.records.specs.Contents.{Contents, fits}

pub record Limits (c : Contents) : Type 0 where
  pub some_pose : 1 ≤ c.poses
  pub few_poses : c.poses ≤ 32
  pub some_action : 1 ≤ c.actions
  pub few_actions : c.actions ≤ 32
  pub end_there : c.end < c.poses
  pub all_there : T (all_below c.actions c.list)

pub limits_from_fits : (c : Contents) → T (fits c) → Limits c
limits_from_fits c t =
    let is = true_of_T (fits c) t in
    let all : all_below c.actions c.list ≡ true = grind (arith, nat_tests) in
    record {
      some_pose = grind (arith, nat_tests);
      few_poses = grind (arith, nat_tests);
      some_action = grind (arith, nat_tests);
      few_actions = grind (arith, nat_tests);
      end_there = grind (arith, nat_tests);
      all_there = T_of_true (all_below c.actions c.list) all;
    }

pub fits_from_limits : (c : Contents) → Limits c → T (fits c)
fits_from_limits c l =
    let all = true_of_T (all_below c.actions c.list) l.all_there in
    let is : fits c ≡ true = rw all (grind (arith, nat_tests)) in
    T_of_true (fits c) is
