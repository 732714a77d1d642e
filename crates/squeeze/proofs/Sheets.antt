-- The format of squeeze tables: whatever keeps the rule has one sheet, and no other sheet is accepted.
use Rattle.std.proofs.Common.{◌≡◌, ℕ, zero, suc, ◌+◌, ◌-◌, ◌<◌, ◌≤◌, true, ltb, List, [], ◌∷◌, ◌++◌, length, get_or, Ok, sym, refl, ap, ◌∙◌, subst, append_assoc, arith, length-append}
use Rattle.std.proofs.lemmas.List.{append-nil, get_or_append_left, get_or_at, get_or_push, length_push, nil_from_length}
use Rattle.std.proofs.lemmas.Bool.{ltb-true, lt-ltb}
use Rattle.refusals.specs.declared.Refusal.TheVariants.{OutsideLimit, OutOfOrder}
use Rattle.numbers.specs.Number.{spell}
use Rattle.numbers.specs.Grammar.{within}
use Rattle.numbers.specs.Format.{OneSheet}
use Rattle.numbers.proofs.Field.{number-spell, number_only}
use Rattle.numbers.proofs.Grammar.{tested_true, tested_only, ended_only, kinded_only, within_true, within_only}
use Rattle.squeeze.specs.declared.step.Step.{Step}
use Rattle.squeeze.specs.Squeeze.{Squeeze, Keeps, blank, begin, rest}
use Rattle.squeeze.specs.Sheet.{spell_steps, spell_turns, spell_squeeze, turns_left, follows, settles, steps_left, squeeze_fields, squeeze_sheet}
use Rattle.squeeze.proofs.Rule.{one_more, Steps, Closed, follows_true, settles_true, settles_only, steps-none, steps_more, closed_more, rest_low}

-- each turn is below T
abbrev Below : ℕ → List ℕ → Type 0
Below ticks rs = (j : ℕ) → j < length rs → get_or rs j 0 < ticks

-- the turns
turns_spelled : (whole : List ℕ) (ticks : ℕ) (steps : List Step) (rs read : List ℕ) → ticks ≤ 36000 → Below ticks rs → turns_left whole ticks steps (length rs) read (spell_turns rs) ≡ Ok (record { ticks = ticks; steps = steps; turns = read ++ rs })
turns_spelled whole ticks steps [] read few h = ap (λ (rs : List ℕ). Ok (record { ticks = ticks; steps = steps; turns = rs })) (sym (append-nil read))
turns_spelled whole ticks steps (r ∷ rs) read few h =
    number-spell whole r (spell_turns rs) _ (omega (arith, h 0 (omega arith)))
    ∙ tested_true (ltb r ticks) OutsideLimit whole (spell r ++ spell_turns rs) _ (lt-ltb r ticks (h 0 (omega arith)))
    ∙ turns_spelled whole ticks steps rs (read ++ (r ∷ [])) few (λ j l. h (suc j) (omega arith))
    ∙ ap (λ (qs : List ℕ). Ok (record { ticks = ticks; steps = steps; turns = qs })) (append_assoc read (r ∷ []) rs)

record Turns (ticks : ℕ) (steps : List Step) (left : ℕ) (read rest : List ℕ) (t : Squeeze) (rs : List ℕ) : Type 0 where
  pub count : length rs ≡ left
  pub below : Below ticks rs
  pub spelled : rest ≡ spell_turns rs
  pub held : t ≡ record { ticks = ticks; steps = steps; turns = read ++ rs }

turns_only : (whole : List ℕ) (ticks : ℕ) (steps : List Step) (left : ℕ) (read rest : List ℕ) (t : Squeeze) → turns_left whole ticks steps left read rest ≡ Ok t → (rs : List ℕ) × Turns ticks steps left read rest t rs
turns_only whole ticks steps zero read rest t h =
    let e = ended_only whole rest _ t h in
    ([], record { count = refl; below = λ j l. omega arith; spelled = e.0; held = sym e.1 ∙ ap (λ (rs : List ℕ). record { ticks = ticks; steps = steps; turns = rs }) (sym (append-nil read)) })
turns_only whole ticks steps (suc left) read rest t h =
    let n = number_only whole rest _ t h in
    let r : ℕ = n.0 in
    let p = tested_only (ltb n.0 ticks) OutsideLimit whole rest _ t n.4 in
    let more = turns_only whole ticks steps left (read ++ (n.0 ∷ [])) n.1 t p.1 in (
      n.0 ∷ more.0,
      record {
        count = ap suc more.1.count;
        below = one_more (λ j. j < suc (length more.0) → get_or (n.0 ∷ more.0) j 0 < ticks) (λ l. ltb-true n.0 ticks p.0) (λ j l. more.1.below j (omega arith));
        spelled = n.3 ∙ ap (λ (q : List ℕ). spell n.0 ++ q) more.1.spelled;
        held = more.1.held ∙ ap (λ (rs : List ℕ). record { ticks = ticks; steps = steps; turns = rs }) (append_assoc read (n.0 ∷ []) more.0);
      },
    )

-- the steps
steps-spelled : (whole : List ℕ) (ticks k : ℕ) (ss read : List Step) (after : List ℕ) → ticks ≤ 36000 → Steps ticks (read ++ ss) → Closed ticks (read ++ ss) → steps_left whole ticks k (length ss) read (spell_steps ss ++ after) ≡ turns_left whole ticks (read ++ ss) k [] after
steps-spelled whole ticks k [] read after few g last = ap (λ (qs : List Step). turns_left whole ticks qs k [] after) (sym (append-nil read))
steps-spelled whole ticks k (s ∷ ss) read after few g last =
    let all : List Step = read ++ (s ∷ ss) in
    let n : length (read ++ (s ∷ ss)) ≡ length read + suc (length ss) = length-append read (s ∷ ss) in
    let at : get_or (read ++ (s ∷ ss)) (length read) blank ≡ s = get_or_at read s ss blank (length read) refl in
    let here : begin (read ++ (s ∷ ss)) (length read) ≡ s.begin = ap (λ (q : Step). q.begin) at in
    let there : rest (read ++ (s ∷ ss)) (length read) ≡ s.rest = ap (λ (q : Step). q.rest) at in
    let b : s.begin < ticks = omega (arith, here, g.begins (length read) (omega (arith, n))) in
    let r : s.begin ≤ s.rest = omega (arith, here, there, g.rests (length read) (omega (arith, n))) in
    let low : s.rest < ticks + ticks = omega (arith, there, rest_low ticks (read ++ (s ∷ ss)) g last (length read) (omega (arith, n))) in
    let f : follows read s.begin ≡ true = follows_true read s.begin (λ l.
    let e : suc (length read - 1) ≡ length read = omega arith in
    let q : begin (read ++ (s ∷ ss)) (suc (length read - 1)) ≡ begin (read ++ (s ∷ ss)) (length read) = ap (begin (read ++ (s ∷ ss))) e in
    let p : rest (read ++ (s ∷ ss)) (length read - 1) ≡ rest read (length read - 1) = ap (λ (x : Step). x.rest) (get_or_append_left read (s ∷ ss) blank (length read - 1) (omega arith)) in
    omega (arith, p, q, here, g.rises (length read - 1) (omega (arith, n)))) in
    let close : length ss ≡ 0 → s.rest < ticks + begin (read ++ (s ∷ [])) 0 = λ z.
    let P : List Step → Type 0 = λ qs. Closed ticks (read ++ (s ∷ qs)) in
    let c : Closed ticks (read ++ (s ∷ [])) = subst P (nil_from_length ss z) last in
    let e : rest (read ++ (s ∷ [])) (length (read ++ (s ∷ [])) - 1) ≡ s.rest = ap (λ (x : Step). x.rest) (get_or_push read s blank (length (read ++ (s ∷ [])) - 1) (omega (arith, length_push read s))) in
    omega (arith, c, e) in
    let G : List Step → Type 0 = Steps ticks in
    let C : List Step → Type 0 = Closed ticks in
    let assoc : (read ++ (s ∷ [])) ++ ss ≡ read ++ (s ∷ ss) = append_assoc read (s ∷ []) ss in
    ap (steps_left whole ticks k (suc (length ss)) read) (append_assoc (spell s.begin) (spell s.rest ++ spell_steps ss) after ∙ ap (λ (q : List ℕ). spell s.begin ++ q) (append_assoc (spell s.rest) (spell_steps ss) after))
    ∙ number-spell whole s.begin (spell s.rest ++ (spell_steps ss ++ after)) _ (omega arith)
    ∙ tested_true (ltb s.begin ticks) OutsideLimit whole _ _ (lt-ltb s.begin ticks b)
    ∙ tested_true (follows read s.begin) OutOfOrder whole _ _ f
    ∙ number-spell whole s.rest (spell_steps ss ++ after) _ (omega arith)
    ∙ tested_true (settles ticks (length ss) read s.begin s.rest) OutOfOrder whole _ _ (settles_true ticks (length ss) read s r close)
    ∙ steps-spelled whole ticks k ss (read ++ (s ∷ [])) after few (subst G (sym assoc) g) (subst C (sym assoc) last)
    ∙ ap (λ (qs : List Step). turns_left whole ticks qs k [] after) assoc

record Read (ticks k : ℕ) (left : ℕ) (read : List Step) (bytes : List ℕ) (t : Squeeze) (ss : List Step) (rs : List ℕ) : Type 0 where
  pub count : length ss ≡ left
  pub steps : Steps ticks (read ++ ss)
  pub closed : Closed ticks (read ++ ss)
  pub turn_count : length rs ≡ k
  pub below : Below ticks rs
  pub spelled : bytes ≡ spell_steps ss ++ spell_turns rs
  pub held : t ≡ record { ticks = ticks; steps = read ++ ss; turns = rs }

spelled_more : (s : Step) (bytes after beyond : List ℕ) (ss : List Step) (rs : List ℕ) → bytes ≡ spell s.begin ++ after → after ≡ spell s.rest ++ beyond → beyond ≡ spell_steps ss ++ spell_turns rs → bytes ≡ spell_steps (s ∷ ss) ++ spell_turns rs
spelled_more s bytes after beyond ss rs b r h =
    b ∙ ap (λ (bs : List ℕ). spell s.begin ++ bs) (r ∙ ap (λ (bs : List ℕ). spell s.rest ++ bs) h ∙ sym (append_assoc (spell s.rest) (spell_steps ss) (spell_turns rs)))
    ∙ sym (append_assoc (spell s.begin) (spell s.rest ++ spell_steps ss) (spell_turns rs))

-- one step in front of those read after it
read_more : (ticks k left : ℕ) (read : List Step) (s : Step) (bytes after beyond : List ℕ) (t : Squeeze) (ss : List Step) (rs : List ℕ) → bytes ≡ spell s.begin ++ after → after ≡ spell s.rest ++ beyond → Read ticks k left (read ++ (s ∷ [])) beyond t ss rs → Read ticks k (suc left) read bytes t (s ∷ ss) rs
read_more ticks k left read s bytes after beyond t ss rs b r more =
    let assoc : (read ++ (s ∷ [])) ++ ss ≡ read ++ (s ∷ ss) = append_assoc read (s ∷ []) ss in
    let G : List Step → Type 0 = Steps ticks in
    let C : List Step → Type 0 = Closed ticks in
    record {
      count = ap suc more.count;
      steps = subst G assoc more.steps;
      closed = subst C assoc more.closed;
      turn_count = more.turn_count;
      below = more.below;
      spelled = spelled_more s bytes after beyond ss rs b r more.spelled;
      held = more.held ∙ ap (λ (qs : List Step). record { ticks = ticks; steps = qs; turns = rs }) assoc;
    }

steps_only : (whole : List ℕ) (ticks k left : ℕ) (read : List Step) (bytes : List ℕ) (t : Squeeze) → Steps ticks read → (left ≡ 0 → Closed ticks read) → steps_left whole ticks k left read bytes ≡ Ok t → (ss : List Step) × (rs : List ℕ) × Read ticks k left read bytes t ss rs
steps_only whole ticks k zero read bytes t g last h =
    let e = turns_only whole ticks read k [] bytes t h in
    let nil : read ++ [] ≡ read = append-nil read in
    let G : List Step → Type 0 = Steps ticks in
    let C : List Step → Type 0 = Closed ticks in (
      [],
      e.0,
      record {
        count = refl;
        steps = subst G (sym nil) g;
        closed = subst C (sym nil) (last refl);
        turn_count = e.1.count;
        below = e.1.below;
        spelled = e.1.spelled;
        held = e.1.held ∙ ap (λ (qs : List Step). record { ticks = ticks; steps = qs; turns = e.0 }) (sym nil);
      },
    )
steps_only whole ticks k (suc left) read bytes t g last h =
    let n = number_only whole bytes _ t h in
    let p = tested_only (ltb n.0 ticks) OutsideLimit whole bytes _ t n.4 in
    let q = tested_only (follows read n.0) OutOfOrder whole bytes _ t p.1 in
    let m = number_only whole n.1 _ t q.1 in
    let z = tested_only (settles ticks left read n.0 m.0) OutOfOrder whole n.1 _ t m.4 in
    let ok = settles_only ticks left read (record { begin = n.0; rest = m.0 }) z.0 in
    let more = steps_only whole ticks k left (read ++ (record { begin = n.0; rest = m.0 } ∷ [])) m.1 t
    (steps_more ticks read (record { begin = n.0; rest = m.0 }) g (ltb-true n.0 ticks p.0) q.0 ok.0)
    (λ e. closed_more ticks read (record { begin = n.0; rest = m.0 }) (ok.1 e)) z.1 in
    (record { begin = n.0; rest = m.0 } ∷ more.0, more.1, read_more ticks k left read (record { begin = n.0; rest = m.0 }) bytes n.1 m.1 t more.0 more.1 n.3 m.3 more.2)

-- the fields after the kind byte
abbrev spell_fields : Squeeze → List ℕ
spell_fields t = spell t.ticks ++ (spell (length t.steps) ++ (spell (length t.turns) ++ (spell_steps t.steps ++ spell_turns t.turns)))

fields_spelled : (whole : List ℕ) (t : Squeeze) → Keeps t → squeeze_fields whole (spell_fields t) ≡ Ok t
fields_spelled whole t k =
    number-spell whole t.ticks _ _ (omega arith)
    ∙ tested_true (within 2 36000 t.ticks) OutsideLimit whole _ _ (within_true 2 36000 t.ticks k.some_ticks k.few_ticks)
    ∙ number-spell whole (length t.steps) _ _ (omega arith)
    ∙ tested_true (within 1 32 (length t.steps)) OutsideLimit whole _ _ (within_true 1 32 (length t.steps) k.some_step k.few_steps)
    ∙ number-spell whole (length t.turns) _ _ (omega arith)
    ∙ tested_true (within 1 32 (length t.turns)) OutsideLimit whole _ _ (within_true 1 32 (length t.turns) k.some_turn k.few_turns)
    ∙ steps-spelled whole t.ticks (length t.turns) t.steps [] (spell_turns t.turns) k.few_ticks (record { begins = k.begins; rests = k.rests; rises = k.rises }) k.last
    ∙ turns_spelled whole t.ticks t.steps t.turns [] k.few_ticks k.turns

fields_joined : (ticks m k : ℕ) (fields r₁ r₂ r₃ : List ℕ) (ss : List Step) (rs : List ℕ) → fields ≡ spell ticks ++ r₁ → r₁ ≡ spell m ++ r₂ → r₂ ≡ spell k ++ r₃ → length ss ≡ m → length rs ≡ k → r₃ ≡ spell_steps ss ++ spell_turns rs → fields ≡ spell_fields (record { ticks = ticks; steps = ss; turns = rs })
fields_joined ticks m k fields r₁ r₂ r₃ ss rs e e₁ e₂ c d h =
    e ∙ ap (λ (bs : List ℕ). spell ticks ++ bs) (e₁ ∙ ap (λ (bs : List ℕ). spell m ++ bs) (e₂ ∙ ap (λ (bs : List ℕ). spell k ++ bs) h))
    ∙ ap (λ (c : ℕ). spell ticks ++ (spell c ++ (spell k ++ (spell_steps ss ++ spell_turns rs)))) (sym c)
    ∙ ap (λ (c : ℕ). spell ticks ++ (spell (length ss) ++ (spell c ++ (spell_steps ss ++ spell_turns rs)))) (sym d)

-- what the fields of a sheet describe keeps the rule, and they are its spelling
pub fields_only : (whole fields : List ℕ) (t : Squeeze) → squeeze_fields whole fields ≡ Ok t → Keeps t × (fields ≡ spell_fields t)
fields_only whole fields t h =
    let n = number_only whole fields _ t h in
    let p = tested_only (within 2 36000 n.0) OutsideLimit whole fields _ t n.4 in
    let n₁ = number_only whole n.1 _ t p.1 in
    let p₁ = tested_only (within 1 32 n₁.0) OutsideLimit whole n.1 _ t n₁.4 in
    let n₂ = number_only whole n₁.1 _ t p₁.1 in
    let p₂ = tested_only (within 1 32 n₂.0) OutsideLimit whole n₁.1 _ t n₂.4 in
    let w = within_only 2 36000 n.0 p.0 in
    let w₁ = within_only 1 32 n₁.0 p₁.0 in
    let w₂ = within_only 1 32 n₂.0 p₂.0 in
    let s = steps_only whole n.0 n₂.0 n₁.0 [] n₂.1 t (steps-none n.0) (λ e. omega (arith, w₁.0)) p₂.1 in
    let r : Read n.0 n₂.0 n₁.0 [] n₂.1 t s.0 s.1 = s.2 in
    let K : Keeps (record { ticks = n.0; steps = s.0; turns = s.1 }) = record {
      some_ticks = w.0;
      few_ticks = w.1;
      some_step = omega (arith, w₁.0, r.count);
      few_steps = omega (arith, w₁.1, r.count);
      some_turn = omega (arith, w₂.0, r.turn_count);
      few_turns = omega (arith, w₂.1, r.turn_count);
      begins = r.steps.begins;
      rests = r.steps.rests;
      rises = r.steps.rises;
      last = r.closed;
      turns = r.below;
    } in
    let e : fields ≡ spell_fields (record { ticks = n.0; steps = s.0; turns = s.1 }) =
    fields_joined n.0 n₁.0 n₂.0 fields n.1 n₁.1 n₂.1 s.0 s.1 n.3 n₁.3 n₂.3 r.count r.turn_count r.spelled in
    rw r.held (K, e)

sheet_only : (sheet : List ℕ) (t : Squeeze) → squeeze_sheet sheet ≡ Ok t → Keeps t × (sheet ≡ spell_squeeze t)
sheet_only sheet t h =
    let k = kinded_only 1 sheet (squeeze_fields sheet) t h in
    let f = fields_only sheet k.0 t k.2 in
    (f.0, k.1 ∙ ap (λ (bs : List ℕ). 1 ∷ bs) f.1)

pub one_sheet : OneSheet Keeps spell_squeeze squeeze_sheet
one_sheet = record { accepted = λ t k. fields_spelled (spell_squeeze t) t k; only = sheet_only }
