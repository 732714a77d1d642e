-- The item was written to its place; past the end there is nothing to write to.
use Rattle.std.proofs.Common.{◌≡◌, ◌≤◌, length, Some, slice_get, sym, refl, rules}
use Rattle.std.proofs.lemmas.List.{set_past}
use Rattle.std.proofs.lemmas.Option.{slice_get_past}
use Rattle.lists.specs.Held.{list_of}
use Rattle.lists.proofs.Lent.{list_of-with_item}
use Rattle.lists.proofs.bounded.Bounded.replace.Goals as goal

pub returns-in_err-get_mut : goal.returns-in_err-get_mut
returns-in_err-get_mut g c =
    let past : length (list_of c.args.self.now) ≤ c.args.place = search rules in
    (search (rules, slice_get_past), sym (set_past (list_of c.args.self.now) c.args.place c.args.item past), λ _. refl)

pub returns : goal.returns
returns g c =
    let there : Some c.replace.result ≡ slice_get (list_of c.args.self.now) c.args.place = search rules in
    let stored : c.replace.new.dest ≡ c.args.item = search rules in
    (there, rw stored (list_of-with_item c.args.self.now c.args.place c.args.item), search rules)
