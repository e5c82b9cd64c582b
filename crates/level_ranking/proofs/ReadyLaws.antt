-- The lists that rankings are made from say of each atom of a cyclic component what the definitions say.
use Rattle.std.proofs.lemmas.List.{get_or_read, length-map}
use Rattle.clause_store.proofs.GateLaws.{literals-up}
use Rattle.asp_base.proofs.Each.{each-weaker}
use Rattle.level_ranking.proofs.Supporting.{rank-up}
use Rattle.std.proofs.Common.{◌≡◌, refl, sym, ◌∙◌, ap, ap₂, subst, subst₂, ℕ, zero, suc, ◌+◌, ◌-◌, ◌*◌, ◌≤◌, ◌<◌, ◌^◌, ◌==◌, Bool, true, false, cond, ◌||◌, List, [], ◌∷◌, map, length, get_or, filter, Option, arith}
use Rattle.std.specs.List.{AllByRecursion}
use Rattle.std.proofs.lemmas.Bool.{true≢false, eqb-true}
use Rattle.asp_base.specs.Literal.{Literal}
use Rattle.asp_base.specs.Sets.{Set, members}
use Rattle.graph_parts.specs.Divided.{is_cyclic_at}
use Rattle.graph_parts.specs.Groups.{values_of}
use Rattle.rising_numbers.specs.Rising.{RisesFrom, place}
use Rattle.ground_program.specs.Facts.{IsProgram}
use Rattle.ground_program.specs.Ground.{Ground}
use Rattle.rising_numbers.proofs.PlaceLaws.{place-within, length-rises}
use Rattle.ground_program.specs.declared.program.Rule.{Rule}
use Rattle.components.specs.Components.{number_of}
use Rattle.components.specs.Divided.{Divided, cyclic_numbers, part_of}
use Rattle.clause_store.specs.Facts.{IsOver}
use Rattle.clause_store.specs.Stored.{Stored}
use Rattle.completion.specs.Completion.{body_literals, completed}
use Rattle.completion.proofs.BodyLaws.{IsOverIfAny, body_literals-over, length-literals_of_rules, IsOverIfAny-up}
use Rattle.digit_gates.specs.DigitGates.{variables_from, less_vars}
use Rattle.level_ranking.specs.Components.{AreParts, atoms_of_part, component}
use Rattle.level_ranking.specs.Encoding.{inside, part_width, Row, digits_of, digits_at, with_digits, rows_of, rows_at, is_head, after_atom}
use Rattle.level_ranking.specs.private.Counts.{support_vars, near_vars, atom_vars}
use Rattle.level_ranking.specs.private.Pairs.{digits_in, CanRank}
use Rattle.level_ranking.specs.private.Ready.{IsReady}
use Rattle.level_ranking.specs.declared.gathering.Sources.{Sources}
use Rattle.level_ranking.specs.private.Sources.{is_ranked, width_among, AreNumbered, digit_table, rows_listed, placed}
use Rattle.completion.specs.Heads.{heads_from}
use Rattle.components.specs.Parts.{ArePartsOf}
use Rattle.level_ranking.proofs.AtomLaws.{HasDigits, body-over}
use Rattle.level_ranking.proofs.ComponentRanks.{inside-in_component}
use Rattle.level_ranking.proofs.InsideLaws.{listed-are}
use Rattle.level_ranking.proofs.RankedStore.{place-in, from_part, has-digits, made}
use Rattle.level_ranking.proofs.WidthLaws.{some_digit}
use Rattle.level_ranking.proofs.RenamedRows.{SameRows, atom-same}
use Rattle.level_ranking.proofs.RowLaws.{all-inside}
use Rattle.level_ranking.proofs.SourceLaws.{ranked-is}

-- ---- components, as the rankings see them

pub numbered-are : (P : Ground) → IsProgram P → (d : Divided) → ArePartsOf P d → AreNumbered d
numbered-are P program d p = record {
  rise = subst (RisesFrom 0) (sym p.atoms) program.atoms_rise;
  few = subst (λ atoms. length atoms ≤ 2 ^ 30) (sym p.atoms) (let k : 0 + length P.atoms ≤ 2 ^ 30 = length-rises 0 (2 ^ 30) P.atoms (omega arith) program.atoms_rise program.atoms_fit in omega arith);
  least = λ a m. subst (λ atoms. 1 ≤ number_of atoms d.numbers a) (sym p.atoms) (p.components.least a (subst (λ atoms. members atoms a ≡ true) p.atoms m));
  most = λ a m. subst (λ atoms. number_of atoms d.numbers a ≤ d.count) (sym p.atoms) (p.components.most a (subst (λ atoms. members atoms a ≡ true) p.atoms m));
}

-- ---- the table of digits

pub length-table : (ranked : ℕ → Bool) (width : ℕ → ℕ) (atoms : List ℕ) (n : ℕ) → length (digit_table ranked width atoms n) ≡ length atoms
length-table ranked width [] n = refl
length-table ranked width (a ∷ atoms) n = ap suc (length-table ranked width atoms (n + cond (ranked a) (width a) 0))

table-at : (ranked : ℕ → Bool) (width : ℕ → ℕ) (atoms : List ℕ) (n a : ℕ) → members atoms a ≡ true → ranked a ≡ true
    → digits_in (digit_table ranked width atoms n) (place atoms a - 1) ≡ digits_of width (filter ranked atoms) n a
table-at ranked width [] n a m r = absurd (true≢false (sym m))
table-at ranked width (x ∷ atoms) n a m r = go (x == a) refl (members atoms a) refl (λ k. table-at ranked width atoms (n + cond (ranked x) (width x) 0) a k r)
  where
    -- the digits of the rest
    later : (e : Bool) (t : Bool) → e ≡ false → digits_of width (filter ranked atoms) (n + cond t (width x) 0) a ≡ cond t (cond e (variables_from (width x) n) (digits_of width (filter ranked atoms) (n + width x) a)) (digits_of width (filter ranked atoms) n a)
    later true t h = absurd (true≢false h)
    later false true h = refl
    later false false h = ap (λ k. digits_of width (filter ranked atoms) k a) (omega arith)

    split : (t : Bool) → digits_of width (cond t (x ∷ filter ranked atoms) (filter ranked atoms)) n a ≡ cond t (cond (x == a) (variables_from (width x) n) (digits_of width (filter ranked atoms) (n + width x) a)) (digits_of width (filter ranked atoms) n a)
    split true = refl
    split false = refl

    step_in : (k : ℕ) (first : List Literal) (rest : List (List Literal)) → 0 < k → digits_in (first ∷ rest) (suc k - 1) ≡ digits_in rest (k - 1)
    step_in zero first rest h = absurd (omega arith)
    step_in (suc k) first rest h = let e : suc (suc k) - 1 ≡ suc k = omega arith in let f : suc k - 1 ≡ k = omega arith in ap (digits_in (first ∷ rest)) e ∙ ap (digits_in rest) (sym f)

    go : (e : Bool) → (x == a) ≡ e → (k : Bool) → members atoms a ≡ k
        → (members atoms a ≡ true → digits_in (digit_table ranked width atoms (n + cond (ranked x) (width x) 0)) (place atoms a - 1) ≡ digits_of width (filter ranked atoms) (n + cond (ranked x) (width x) 0) a)
        → digits_in (cond (ranked x) (variables_from (width x) n) [] ∷ digit_table ranked width atoms (n + cond (ranked x) (width x) 0)) (cond (x == a) 1 (cond (members atoms a) (suc (place atoms a)) 0) - 1)
        ≡ digits_of width (cond (ranked x) (x ∷ filter ranked atoms) (filter ranked atoms)) n a
    go true e k f i =
        let same : x ≡ a = eqb-true x a e in
        let rx : ranked x ≡ true = ap ranked same ∙ r in
        let z : cond (x == a) 1 (cond (members atoms a) (suc (place atoms a)) 0) - 1 ≡ 0 = ap (λ b. cond b 1 (cond (members atoms a) (suc (place atoms a)) 0) - 1) e in
        ap (digits_in (cond (ranked x) (variables_from (width x) n) [] ∷ digit_table ranked width atoms (n + cond (ranked x) (width x) 0))) z
        ∙ (ap (λ b. cond b (variables_from (width x) n) []) rx
        ∙ sym (split (ranked x) ∙ (ap (λ b. cond b (cond (x == a) (variables_from (width x) n) (digits_of width (filter ranked atoms) (n + width x) a)) (digits_of width (filter ranked atoms) n a)) rx
        ∙ ap (λ b. cond b (variables_from (width x) n) (digits_of width (filter ranked atoms) (n + width x) a)) e)))
    go false e false f i = absurd (true≢false (sym (sym (ap₂ ◌||◌ e f) ∙ m)))
    go false e true f i =
        ap (digits_in (cond (ranked x) (variables_from (width x) n) [] ∷ digit_table ranked width atoms (n + cond (ranked x) (width x) 0))) (ap₂ (λ b c. cond b 1 (cond c (suc (place atoms a)) 0) - 1) e f)
        ∙ (step_in (place atoms a) (cond (ranked x) (variables_from (width x) n) []) (digit_table ranked width atoms (n + cond (ranked x) (width x) 0)) (place-within atoms a f).0
        ∙ (i f ∙ (later (x == a) (ranked x) e ∙ sym (split (ranked x)))))

-- ---- rows over places

-- a place at which digits for a component stand
pub record Stands (n w : ℕ) (table : List (List Literal)) (own : List Literal) (i : ℕ) : Type 0 where
  pub within : i < length table
  pub is : digits_in table i ≡ own
  pub has : HasDigits n w own

module _ (n w : ℕ) (table : List (List Literal)) (digits : ℕ → List Literal) (atoms : List ℕ) (S : Set)
    (stand : (b : ℕ) → S b ≡ true → Stands n w table (digits b) (place atoms b - 1)) where
  mapped-each : (Q : ℕ → Type 0) → ((b : ℕ) → S b ≡ true → Q (place atoms b - 1)) → (bs : List ℕ) → AllByRecursion (λ b. S b ≡ true) bs → AllByRecursion Q (map (λ b. place atoms b - 1) bs)
  mapped-each Q f [] h = tt
  mapped-each Q f (b ∷ bs) h = (f b h.0, mapped-each Q f bs h.1)

  mapped-same : (bs : List ℕ) → AllByRecursion (λ b. S b ≡ true) bs → map (digits_in table) (map (λ b. place atoms b - 1) bs) ≡ map digits bs
  mapped-same [] h = refl
  mapped-same (b ∷ bs) h = ap₂ ◌∷◌ (stand b h.0).is (mapped-same bs h.1)

  inside-all : (rule : Rule) → AllByRecursion (λ b. S b ≡ true) (inside S rule)
  inside-all rule = all-inside S (λ b. S b ≡ true) (λ b h. h) (inside S rule) (inside-in_component S rule)

  pub rows-can : (m a : ℕ) → m ≤ n → (rules : List Rule) (bodies : List (Option Literal)) → AllByRecursion (IsOverIfAny m) bodies → AllByRecursion (CanRank n w table) (map (placed atoms) (rows_of S a rules bodies))
  rows-can m a h [] bodies o = tt
  rows-can m a h (rule ∷ rules) [] o = tt
  rows-can m a h (rule ∷ rules) (body ∷ bodies) o = go (is_head a rule.head) (rows-can m a h rules bodies o.1)
    where
      one : CanRank n w table (placed atoms (record { body = body; inside = inside S rule }))
      one = record {
        body = body-over n body (IsOverIfAny-up m n h body o.0);
        places = mapped-each (λ i. i < length table) (λ b k. (stand b k).within) (inside S rule) (inside-all rule);
        counts = mapped-each (λ i. length (digits_in table i) ≡ w) (λ b k. ap length (stand b k).is ∙ (stand b k).has.count) (inside S rule) (inside-all rule);
        over = mapped-each (λ i. AllByRecursion (IsOver n) (digits_in table i)) (λ b k. subst (AllByRecursion (IsOver n)) (sym (stand b k).is) (stand b k).has.over) (inside S rule) (inside-all rule);
      }

      go : (t : Bool) → AllByRecursion (CanRank n w table) (map (placed atoms) (rows_of S a rules bodies))
          → AllByRecursion (CanRank n w table) (map (placed atoms) (cond t (record { body = body; inside = inside S rule } ∷ rows_of S a rules bodies) (rows_of S a rules bodies)))
      go true i = (one, i)
      go false i = i

  pub rows-same : (a : ℕ) (rules : List Rule) (bodies : List (Option Literal)) → SameRows (digits_in table) digits (map (placed atoms) (rows_of S a rules bodies)) (rows_of S a rules bodies)
  rows-same a [] bodies = tt
  rows-same a (rule ∷ rules) [] = tt
  rows-same a (rule ∷ rules) (body ∷ bodies) = go (is_head a rule.head) (rows-same a rules bodies)
    where
      go : (t : Bool) → SameRows (digits_in table) digits (map (placed atoms) (rows_of S a rules bodies)) (rows_of S a rules bodies)
          → SameRows (digits_in table) digits (map (placed atoms) (cond t (record { body = body; inside = inside S rule } ∷ rows_of S a rules bodies) (rows_of S a rules bodies))) (cond t (record { body = body; inside = inside S rule } ∷ rows_of S a rules bodies) (rows_of S a rules bodies))
      go true i = (record { body = refl; inside = mapped-same (inside S rule) (inside-all rule) }, i)
      go false i = i

pub placed-support : (w : ℕ) (atoms : List ℕ) (rows : List Row) → support_vars w (map (placed atoms) rows) ≡ support_vars w rows
placed-support w atoms [] = refl
placed-support w atoms (row ∷ rows) = ap₂ (λ k n. (less_vars w * k + 1) + n) (length-map row.inside (λ b. place atoms b - 1)) (placed-support w atoms rows)

pub placed-near : (w : ℕ) (atoms : List ℕ) (rows : List Row) → near_vars w (map (placed atoms) rows) ≡ near_vars w rows
placed-near w atoms [] = refl
placed-near w atoms (row ∷ rows) = ap₂ (λ k n. less_vars w * k + n) (length-map row.inside (λ b. place atoms b - 1)) (placed-near w atoms rows)

-- ---- all together

module _ (P : Ground) (program : IsProgram P) (d : Divided) (p : ArePartsOf P d) where
  part-within : (a : ℕ) → members P.atoms a ≡ true → members (cyclic_numbers d) (part_of d a) ≡ is_cyclic_at d.cyclic (part_of d a)
  part-within a m = ranked-is d (numbered-are P program d p) a (subst (λ atoms. members atoms a ≡ true) (sym p.atoms) m)

  number-same : (a : ℕ) → number_of P.atoms d.numbers a ≡ part_of d a
  number-same a = ap (λ atoms. number_of atoms d.numbers a) (sym p.atoms)

  pub parts-are : AreParts P.rules P.atoms (part_of d) (members (cyclic_numbers d))
  parts-are = record {
    together = λ a b m k. (
      λ e. (p.components.together a b m k).0 (number-same a ∙ (e ∙ sym (number-same b))),
      λ t. sym (number-same a) ∙ ((p.components.together a b m k).1 t ∙ number-same b),
    );
    cycles = λ a m. (
      λ e. (p.components.cycles a m).0 (ap (is_cyclic_at d.cyclic) (number-same a) ∙ (sym (part-within a m) ∙ e)),
      λ r. part-within a m ∙ (ap (is_cyclic_at d.cyclic) (sym (number-same a)) ∙ (p.components.cycles a m).1 r),
    );
    lower = λ a b e. subst₂ (λ m n. m ≤ n) (number-same b) (number-same a) (p.components.lower a b e);
  }

module _ (sources : Sources) (program : IsProgram sources.given.program.now) (ready : IsReady sources) where
  abbrev P : Ground
  P = sources.given.program.now

  abbrev d : Divided
  d = sources.given.parts.now

  abbrev bodies : List (Option Literal)
  bodies = sources.given.bodies.now

  abbrev numbers : List (List Literal)
  numbers = sources.numbers.now

  abbrev starts : List ℕ
  starts = sources.heads.now.starts

  abbrev values : List ℕ
  values = sources.heads.now.values

  abbrev part : ℕ → ℕ
  part = part_of d

  abbrev parts : List ℕ
  parts = cyclic_numbers d

  pub are : AreParts P.rules P.atoms (part_of d) (members (cyclic_numbers d))
  are = parts-are P program d ready.given.parts

  pub numbers-length : length numbers ≡ length P.atoms
  numbers-length = ap length ready.digits ∙ length-table (is_ranked d) (width_among d P.atoms) P.atoms (completed P).vars

  pub bodies-length : length bodies ≡ length P.rules
  bodies-length = ap length ready.given.literals ∙ length-literals_of_rules P.atoms P.rules _

  module _ (c : ℕ) (cyclic : members (cyclic_numbers d) c ≡ true) where
    pub number-stands : (b : ℕ) → component P (part_of d) c b ≡ true → Stands (with_digits P (part_of d) (cyclic_numbers d)).vars (part_width P (part_of d) (cyclic_numbers d) c) numbers (digits_at P (part_of d) (cyclic_numbers d) b) (place P.atoms b - 1)
    number-stands b h =
        let k : (members P.atoms b ≡ true) × (part_of d b ≡ c) = from_part P program ready.given.normal part parts are c b h in
        let l : length numbers ≡ length P.atoms = numbers-length in
        record {
          within = let q = place-within P.atoms b k.0 in omega arith;
          is = ap (λ t. digits_in t (place P.atoms b - 1)) ready.digits
              ∙ table-at (is_ranked d) (width_among d P.atoms) P.atoms (completed P).vars b k.0 (ap (members (cyclic_numbers d)) k.1 ∙ cyclic);
          has = has-digits P program ready.given.normal part parts are c b cyclic h;
        }

    module _ (a : ℕ) (inside_is : component P (part_of d) c a ≡ true) where
      pub atom-among : members P.atoms a ≡ true
      atom-among = (from_part P program ready.given.normal part parts are c a inside_is).0

      some-atoms : (atoms : List ℕ) (b : ℕ) → members atoms b ≡ true → 0 < length atoms
      some-atoms [] b h = absurd (true≢false (sym h))
      some-atoms (x ∷ atoms) b h = omega arith

      pub some-width : 0 < part_width P (part_of d) (cyclic_numbers d) c
      some-width = some_digit (length (atoms_of_part (part_of d) c P.atoms)) (some-atoms (atoms_of_part (part_of d) c P.atoms) a inside_is)

      pub values-are : rows_listed (component P (part_of d) c) P.rules bodies (values_of (place P.atoms a - 1) (heads_from P.atoms 0 P.rules)) ≡ rows_at P (part_of d) (cyclic_numbers d) c a
      values-are = listed-are P.atoms program.atoms_rise (component P (part_of d) c) a atom-among P.rules bodies bodies-length program.rules
          ∙ ap (rows_of (component P (part_of d) c) a P.rules) ready.given.literals

      pub atom-can : AllByRecursion (CanRank (with_digits P (part_of d) (cyclic_numbers d)).vars (part_width P (part_of d) (cyclic_numbers d) c) numbers) (map (placed P.atoms) (rows_at P (part_of d) (cyclic_numbers d) c a))
      atom-can = rows-can (with_digits P (part_of d) (cyclic_numbers d)).vars (part_width P (part_of d) (cyclic_numbers d) c) numbers (digits_at P (part_of d) (cyclic_numbers d)) P.atoms (component P (part_of d) c)
          number-stands (completed P).vars a (made P program ready.given.normal part parts are).grows.up P.rules (body_literals P) (body_literals-over P program.rules)

      pub atom-is : (s : Stored) → after_atom (place P.atoms a) (digits_at P (part_of d) (cyclic_numbers d) a) (digits_in numbers) (map (placed P.atoms) (rows_at P (part_of d) (cyclic_numbers d) c a)) s
          ≡ after_atom (place P.atoms a) (digits_at P (part_of d) (cyclic_numbers d) a) (digits_at P (part_of d) (cyclic_numbers d)) (rows_at P (part_of d) (cyclic_numbers d) c a) s
      atom-is s = atom-same (digits_in numbers) (digits_at P (part_of d) (cyclic_numbers d)) (place P.atoms a) (digits_at P (part_of d) (cyclic_numbers d) a) (map (placed P.atoms) (rows_at P (part_of d) (cyclic_numbers d) c a)) (rows_at P (part_of d) (cyclic_numbers d) c a) s
          (rows-same (with_digits P (part_of d) (cyclic_numbers d)).vars (part_width P (part_of d) (cyclic_numbers d) c) numbers (digits_at P (part_of d) (cyclic_numbers d)) P.atoms (component P (part_of d) c) number-stands a P.rules (body_literals P))

      -- what the call for the atom finds, at its place from 0
      module _ (i : ℕ) (place_is : i ≡ place P.atoms a - 1) where
        pub place-low : i < length numbers
        place-low = let q = place-within P.atoms a atom-among in let l : length numbers ≡ length P.atoms = numbers-length in omega arith

        pub place-var : i + 1 ≡ place P.atoms a
        place-var = let q = place-within P.atoms a atom-among in omega arith

        pub var-high : i + 1 ≤ (with_digits P (part_of d) (cyclic_numbers d)).vars
        var-high = let q = place-in P program ready.given.normal part parts are a atom-among in let u : (completed P).vars ≤ (with_digits P (part_of d) (cyclic_numbers d)).vars = (made P program ready.given.normal part parts are).grows.up in omega (arith, q.1, place-var)

        module _ (own : List Literal) (read : own ≡ get_or numbers i own) (rules : List Row)
            (listed : rules ≡ map (placed P.atoms) (rows_listed (component P (part_of d) c) P.rules bodies (values_of i (heads_from P.atoms 0 P.rules)))) where
          pub own-is : own ≡ digits_at P (part_of d) (cyclic_numbers d) a
          own-is = get_or_read numbers i own place-low read [] ∙ (ap (digits_in numbers) place_is ∙ (number-stands a inside_is).is)

          own-has : HasDigits (with_digits P (part_of d) (cyclic_numbers d)).vars (part_width P (part_of d) (cyclic_numbers d) c) own
          own-has = subst (HasDigits (with_digits P (part_of d) (cyclic_numbers d)).vars (part_width P (part_of d) (cyclic_numbers d) c)) (sym own-is) (number-stands a inside_is).has

          pub rules-are : rules ≡ map (placed P.atoms) (rows_at P (part_of d) (cyclic_numbers d) c a)
          rules-are = listed ∙ ap (map (placed P.atoms)) (ap (λ k. rows_listed (component P (part_of d) c) P.rules bodies (values_of k (heads_from P.atoms 0 P.rules))) place_is ∙ values-are)

          pub own-some : 0 < length own
          own-some = subst (λ n. 0 < n) (sym own-has.count) some-width

          module _ (n : ℕ) (up : (with_digits P (part_of d) (cyclic_numbers d)).vars ≤ n) where
            pub own-over : AllByRecursion (IsOver n) own
            own-over = literals-up (with_digits P (part_of d) (cyclic_numbers d)).vars n up own own-has.over

            pub rules-can : AllByRecursion (CanRank n (length own) numbers) rules
            rules-can = each-weaker _ (CanRank n (length own) numbers) (λ row k. rank-up (with_digits P (part_of d) (cyclic_numbers d)).vars n (length own) numbers row up k) rules
                (subst (λ w. AllByRecursion (CanRank (with_digits P (part_of d) (cyclic_numbers d)).vars w numbers) rules) (sym own-has.count)
                (subst (AllByRecursion (CanRank (with_digits P (part_of d) (cyclic_numbers d)).vars (part_width P (part_of d) (cyclic_numbers d) c) numbers)) (sym rules-are) atom-can))

          pub own-vars : atom_vars (length own) rules ≡ atom_vars (part_width P (part_of d) (cyclic_numbers d) c) (rows_at P (part_of d) (cyclic_numbers d) c a)
          own-vars = ap₂ atom_vars own-has.count rules-are
              ∙ ap₂ (λ m n. 2 * part_width P (part_of d) (cyclic_numbers d) c + (m + n)) (placed-support (part_width P (part_of d) (cyclic_numbers d) c) P.atoms (rows_at P (part_of d) (cyclic_numbers d) c a)) (placed-near (part_width P (part_of d) (cyclic_numbers d) c) P.atoms (rows_at P (part_of d) (cyclic_numbers d) c a))

          pub own-after : (s : Stored) → after_atom (i + 1) own (digits_in numbers) rules s
              ≡ after_atom (place P.atoms a) (digits_at P (part_of d) (cyclic_numbers d) a) (digits_at P (part_of d) (cyclic_numbers d)) (rows_at P (part_of d) (cyclic_numbers d) c a) s
          own-after s = ap₂ (λ v r. after_atom v r (digits_in numbers) rules s) place-var own-is
              ∙ (ap (λ rs. after_atom (place P.atoms a) (digits_at P (part_of d) (cyclic_numbers d) a) (digits_in numbers) rs s) rules-are ∙ atom-is s)
