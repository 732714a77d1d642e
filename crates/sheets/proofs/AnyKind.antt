-- The kind byte chooses the format; so sheets of any kind are spelled in one way, as those of each kind are.
use Rattle.std.proofs.Common.{◌≡◌, ℕ, Bool, true, false, cond, eqb, List, [], ◌∷◌, Ok, Err, Result, sym, refl, ap, subst, arith}
use Rattle.std.proofs.lemmas.Bool.{eqb-true}
use Rattle.refusals.specs.declared.Fault.{Fault}
use Rattle.numbers.specs.Format.{OneSheet}
use Rattle.squeeze.specs.Sheet.{squeeze_fields}
use Rattle.trays.specs.Sheet.{tray_fields}
use Rattle.gates.specs.Sheet.{gate_fields}
use Rattle.squeeze.proofs.Sheets as squeeze
use Rattle.trays.proofs.Format as trays
use Rattle.gates.proofs.Sheets as gates
use Rattle.sheets.specs.Described.{Described, Keeps, described, spelled, on_ok, jaws, tray, row}

on_ok_only : {X Y : Type 0} (f : X → Y) (x : Result X Fault) (y : Y) → on_ok f x ≡ Ok y → (s : X) × (x ≡ Ok s) × (f s ≡ y)
on_ok_only f (Ok s) y h = (s, refl, cc)
on_ok_only f (Err e) y h = let z : ◌≡◌ {A = ℕ} 0 1 = cc in let no : ⊥ = omega arith in absurd no

sheet_accepted : (t : Described) → Keeps t → described (spelled t) ≡ Ok t
sheet_accepted (jaws t) k = ap (on_ok jaws) ((squeeze.one_sheet).accepted t k)
sheet_accepted (tray t) k = ap (on_ok tray) ((trays.one_sheet).accepted t k)
sheet_accepted (row t) k = ap (on_ok row) ((gates.one_sheet).accepted t k)

-- t keeps its rule, and the sheet is its spelling
abbrev Right : List ℕ → Described → Type 0
Right sheet t = Keeps t × (sheet ≡ spelled t)

squeeze_only : (rest : List ℕ) (t : Described) → on_ok jaws (squeeze_fields (1 ∷ rest) rest) ≡ Ok t → Right (1 ∷ rest) t
squeeze_only rest t h =
    let f = on_ok_only jaws (squeeze_fields (1 ∷ rest) rest) t h in
    subst (λ (d : Described). Right (1 ∷ rest) d) f.2 ((squeeze.one_sheet).only (1 ∷ rest) f.0 f.1)

tray_only : (rest : List ℕ) (t : Described) → on_ok tray (tray_fields (2 ∷ rest) rest) ≡ Ok t → Right (2 ∷ rest) t
tray_only rest t h =
    let f = on_ok_only tray (tray_fields (2 ∷ rest) rest) t h in
    subst (λ (d : Described). Right (2 ∷ rest) d) f.2 ((trays.one_sheet).only (2 ∷ rest) f.0 f.1)

gates_only : (rest : List ℕ) (t : Described) → on_ok row (gate_fields (3 ∷ rest) rest) ≡ Ok t → Right (3 ∷ rest) t
gates_only rest t h =
    let f = on_ok_only row (gate_fields (3 ∷ rest) rest) t h in
    subst (λ (d : Described). Right (3 ∷ rest) d) f.2 ((gates.one_sheet).only (3 ∷ rest) f.0 f.1)

kind_only : (b : ℕ) (rest : List ℕ) (t : Described) (e : Fault) (one two three : Bool) → eqb b 1 ≡ one → eqb b 2 ≡ two → eqb b 3 ≡ three → cond one (on_ok jaws (squeeze_fields (b ∷ rest) rest)) (cond two (on_ok tray (tray_fields (b ∷ rest) rest)) (cond three (on_ok row (gate_fields (b ∷ rest) rest)) (Err e))) ≡ Ok t → Right (b ∷ rest) t
kind_only b rest t e true two three h₁ h₂ h₃ =
    subst (λ (x : ℕ). on_ok jaws (squeeze_fields (x ∷ rest) rest) ≡ Ok t → Right (x ∷ rest) t) (sym (eqb-true b 1 h₁)) (squeeze_only rest t)
kind_only b rest t e false true three h₁ h₂ h₃ =
    subst (λ (x : ℕ). on_ok tray (tray_fields (x ∷ rest) rest) ≡ Ok t → Right (x ∷ rest) t) (sym (eqb-true b 2 h₂)) (tray_only rest t)
kind_only b rest t e false false true h₁ h₂ h₃ =
    subst (λ (x : ℕ). on_ok row (gate_fields (x ∷ rest) rest) ≡ Ok t → Right (x ∷ rest) t) (sym (eqb-true b 3 h₃)) (gates_only rest t)
kind_only b rest t e false false false h₁ h₂ h₃ = λ h. let z : ◌≡◌ {A = ℕ} 0 1 = cc in let no : ⊥ = omega arith in absurd no

sheet_only : (sheet : List ℕ) (t : Described) → described sheet ≡ Ok t → Right sheet t
sheet_only [] t h = let z : ◌≡◌ {A = ℕ} 0 1 = cc in let no : ⊥ = omega arith in absurd no
sheet_only (b ∷ rest) t h = kind_only b rest t _ (eqb b 1) (eqb b 2) (eqb b 3) refl refl refl h

pub one_sheet : OneSheet Keeps spelled described
one_sheet = record { accepted = sheet_accepted; only = sheet_only }
