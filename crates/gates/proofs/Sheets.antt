-- A gate row that keeps its rule has one sheet that is accepted.
use Rattle.std.proofs.Common.{◌≡◌, ℕ, zero, suc, ◌^◌, ◌<◌, ◌≤◌, ltb, List, [], ◌∷◌, ◌++◌, length, Ok, sym, refl, ap, ◌∙◌, subst, arith, lit<, pow_mono}
use Rattle.std.proofs.ByRecursion.{All-get_or, All-from_get_or}
use Rattle.std.proofs.lemmas.List.{append-nil, append_assoc}
use Rattle.std.proofs.lemmas.Bool.{lt-ltb, ltb-true}
use Rattle.std.specs.List.{AllByRecursion}
use Rattle.refusals.specs.declared.Refusal.TheVariants.{OutsideLimit}
use Rattle.numbers.specs.Format.{OneSheet}
use Rattle.numbers.specs.Number.{spell}
use Rattle.numbers.specs.Grammar.{within}
use Rattle.numbers.proofs.Field.{number_only, number-spell}
use Rattle.numbers.proofs.Grammar.{tested_true, tested_only, ended_only, kinded_only, within_true, within_only}
use Rattle.gates.specs.declared.gate.Gate.{Gate}
use Rattle.gates.specs.Gates.{Gates, Keeps, idle}
use Rattle.gates.specs.Sheet.{spell_gates, spell_row, gates_left, gate_fields, gate_sheet}

-- a gate over n poses
abbrev pub Fitting : ℕ → Gate → Type 0
Fitting n g = (g.set < 2 ^ n) × (g.turn < n)

-- the gates of a row are read back
gates_accepted : (whole : List ℕ) (n : ℕ) (read gs : List Gate) → n ≤ 32 → AllByRecursion (Fitting n) gs → gates_left whole n (length gs) read (spell_gates gs) ≡ Ok (record { poses = n; gates = read ++ gs })
gates_accepted whole n read [] few fit = ap (λ gs. Ok (record { poses = n; gates = gs })) (sym (append-nil read))
gates_accepted whole n read (g ∷ gs) few fit =
    let room : 2 ^ n ≤ 2 ^ 32 = pow_mono few in
    let whole_set : g.set < 2 ^ 32 = omega (arith, fit.0.0) in
    let whole-turn : g.turn < 2 ^ 32 = omega (arith, fit.0.1) in
    let rest = spell g.set ++ (spell g.turn ++ spell_gates gs) in
    number-spell whole g.set (spell g.turn ++ spell_gates gs) _ whole_set
    ∙ tested_true (ltb g.set (2 ^ n)) OutsideLimit whole rest _ (lt-ltb g.set (2 ^ n) fit.0.0)
    ∙ number-spell whole g.turn (spell_gates gs) _ whole-turn
    ∙ tested_true (ltb g.turn n) OutsideLimit whole (spell g.turn ++ spell_gates gs) _ (lt-ltb g.turn n fit.0.1)
    ∙ gates_accepted whole n (read ++ (g ∷ [])) gs few fit.1
    ∙ ap (λ all. Ok (record { poses = n; gates = all })) (append_assoc read (g ∷ []) gs)

-- the bytes are the spelling of as many gates as are left, and with those read before they make the row
abbrev Spelled : ℕ → ℕ → List Gate → List ℕ → Gates → Type 0
Spelled n left read rest t =
    (gs : List Gate) × (length gs ≡ left) × (rest ≡ spell_gates gs) × AllByRecursion (Fitting n) gs × (t ≡ record { poses = n; gates = read ++ gs })

one_more : (n left : ℕ) (read : List Gate) (rest r₁ r₂ : List ℕ) (t : Gates) (g : Gate) → rest ≡ spell g.set ++ r₁ → r₁ ≡ spell g.turn ++ r₂ → Fitting n g → Spelled n left (read ++ (g ∷ [])) r₂ t → Spelled n (suc left) read rest t
one_more n left read rest r₁ r₂ t g first second fit (gs, counted, after, fits, is) =
    (g ∷ gs, ap suc counted, first ∙ ap (λ r. spell g.set ++ r) (second ∙ ap (λ r. spell g.turn ++ r) after), (fit, fits), is ∙ ap (λ all. record { poses = n; gates = all }) (append_assoc read (g ∷ []) gs))

-- bytes from which gates are read are their spelling
gates_only : (whole : List ℕ) (n left : ℕ) (read : List Gate) (rest : List ℕ) (t : Gates) → gates_left whole n left read rest ≡ Ok t → Spelled n left read rest t
gates_only whole n zero read rest t h =
    let p = ended_only whole rest (record { poses = n; gates = read }) t h in
    ([], refl, p.0, tt, sym p.1 ∙ ap (λ gs. record { poses = n; gates = gs }) (sym (append-nil read)))
gates_only whole n (suc left) read rest t h =
    let a = number_only whole rest _ t h in
    let b = tested_only (ltb a.0 (2 ^ n)) OutsideLimit whole rest _ t a.4 in
    let d = number_only whole a.1 _ t b.1 in
    let e = tested_only (ltb d.0 n) OutsideLimit whole a.1 _ t d.4 in
    one_more n left read rest a.1 d.1 t (record { set = a.0; turn = d.0 }) a.3 d.3
    (ltb-true a.0 (2 ^ n) b.0, ltb-true d.0 n e.0)
    (gates_only whole n left _ d.1 t e.1)

-- what the rule says of each gate
fitting : (t : Gates) → Keeps t → AllByRecursion (Fitting t.poses) t.gates
fitting t k = All-from_get_or (Fitting t.poses) t.gates idle (λ a h. (k.sets a h, k.turns a h))

keeps : (n : ℕ) (gs : List Gate) → 1 ≤ n → n ≤ 32 → 1 ≤ length gs → length gs ≤ 32 → AllByRecursion (Fitting n) gs → Keeps (record { poses = n; gates = gs })
keeps n gs some few some_gate few_gates fits = record {
  some_pose = some;
  few_poses = few;
  some_gate = some_gate;
  few_gates = few_gates;
  sets = λ a h. (All-get_or (Fitting n) gs a idle h fits).0;
  turns = λ a h. (All-get_or (Fitting n) gs a idle h fits).1;
}

sheet_accepted : (t : Gates) → Keeps t → gate_sheet (spell_row t) ≡ Ok t
sheet_accepted t k =
    let whole = spell_row t in
    let room : 2 ^ 5 < 2 ^ 32 = lit< tt in
    let last = spell_gates t.gates in
    let second = spell (length t.gates) ++ last in
    let first = spell t.poses ++ second in
    number-spell whole t.poses second _ (omega (arith, k.few_poses))
    ∙ tested_true (within 1 32 t.poses) OutsideLimit whole first _ (within_true 1 32 t.poses k.some_pose k.few_poses)
    ∙ number-spell whole (length t.gates) last _ (omega (arith, k.few_gates))
    ∙ tested_true (within 1 32 (length t.gates)) OutsideLimit whole second _ (within_true 1 32 (length t.gates) k.some_gate k.few_gates)
    ∙ gates_accepted whole t.poses [] t.gates k.few_poses (fitting t k)

-- fields from which a row is read are its spelling
abbrev Row : List ℕ → Gates → Type 0
Row rest t = Keeps t × (rest ≡ spell t.poses ++ (spell (length t.gates) ++ spell_gates t.gates))

row_from : (n k : ℕ) (rest r₁ r₂ : List ℕ) (t : Gates) → rest ≡ spell n ++ r₁ → r₁ ≡ spell k ++ r₂ → (1 ≤ n) × (n ≤ 32) → (1 ≤ k) × (k ≤ 32) → Spelled n k [] r₂ t → Row rest t
row_from n k rest r₁ r₂ t first second poses actions (gs, counted, after, fits, is) =
    subst (λ (u : Gates). Row rest u) (sym is)
    (keeps n gs poses.0 poses.1 (omega (arith, actions.0)) (omega (arith, actions.1)) fits, first ∙ ap (λ r. spell n ++ r) (second ∙ (ap (λ r. spell k ++ r) after ∙ ap (λ m. spell m ++ spell_gates gs) (sym counted))))

pub fields_only : (whole rest : List ℕ) (t : Gates) → gate_fields whole rest ≡ Ok t → Row rest t
fields_only whole rest t h =
    let a = number_only whole rest _ t h in
    let b = tested_only (within 1 32 a.0) OutsideLimit whole rest _ t a.4 in
    let d = number_only whole a.1 _ t b.1 in
    let e = tested_only (within 1 32 d.0) OutsideLimit whole a.1 _ t d.4 in
    row_from a.0 d.0 rest a.1 d.1 t a.3 d.3 (within_only 1 32 a.0 b.0) (within_only 1 32 d.0 e.0)
    (gates_only whole a.0 d.0 [] d.1 t e.1)

sheet_only : (sheet : List ℕ) (t : Gates) → gate_sheet sheet ≡ Ok t → Keeps t × (sheet ≡ spell_row t)
sheet_only sheet t h =
    let k = kinded_only 3 sheet (gate_fields sheet) t h in
    let f = fields_only sheet k.0 t k.2 in
    (f.0, k.1 ∙ ap (λ r. 3 ∷ r) f.1)

pub one_sheet : OneSheet Keeps spell_row gate_sheet
one_sheet = record { accepted = sheet_accepted; only = sheet_only }
