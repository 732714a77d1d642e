-- A record in words.
use Rattle.std.specs.Prelude.{ℕ, List, ◌++◌, codes}
use Rattle.std.specs.Fmt.{decimal}
use Rattle.std.specs.List.{flat_map}
use Rattle.records.specs.Contents.{Contents}

-- the numbers of poses and actions, and the end pose
abbrev pub fields_in_words : Contents → List ℕ
fields_in_words c = decimal c.poses ++ (codes " poses, " ++ (decimal c.actions ++ (codes " actions, end pose " ++ (decimal c.end ++ codes ", plan"))))

-- then each action of the plan in decimal, behind a blank
abbrev pub in_words : Contents → List ℕ
in_words c = fields_in_words c ++ flat_map (λ a. codes " " ++ decimal a) c.list
