-- What is added to a stage, one piece after another.
use Rattle.std.proofs.Common.{◌≡◌, ◌⊎◌, inl, inr, refl, sym, ◌∙◌, ap, ℕ, ◌<◌, ◌||◌, true, false, List, [], ◌∷◌, ◌++◌, append-nil, ⊎_elim, arith}
use Rattle.std.proofs.lemmas.Bool.{false_from_ne_true, or_left, or_right, or_cases, true≢false, cases_lt, cases_eq}
use Rattle.std.proofs.lemmas.List.{append_assoc}
use Rattle.asp_base.specs.Literal.{Literal}
use Rattle.asp_base.specs.Sets.{members, Within}
use Rattle.asp_base.proofs.Each.{each-append, each-member, each-weaker}
use Rattle.rising_numbers.proofs.RisingLaws.{members-append}
use Rattle.ground_program.specs.Dependencies.{positives_of_body, positives_of_literals}
use Rattle.ground_program.specs.Occurrences.{atoms_of_head}
use Rattle.ground_program.specs.declared.program.Rule.{Rule}
use Rattle.normalize.specs.private.Added.{IsLower, IsMadeHead, IsMade, Adds, AddsAnswer}
use Rattle.normalize.specs.private.Stage.{Stage, IsStage, IsNormal, known, with_rule}
use Rattle.normalize.proofs.DistinctLaws.{members-each}

-- ---- among more atoms

module _ (drawn drawn2 heads heads2 reads reads2 : List ℕ)
    (drawn-in : Within (members drawn) (members drawn2))
    (heads-in : Within (members heads) (members heads2))
    (reads-in : (b : ℕ) → members reads b ≡ true
    → (members reads2 b ≡ true)
    ⊎ ((members drawn2 b ≡ true) × ((a : ℕ) → members drawn a ≡ true → b < a))) where
  lower-wider : (a b : ℕ) → members drawn a ≡ true → IsLower drawn reads a b
      → IsLower drawn2 reads2 a b
  lower-wider a b m (inl k) = inl (drawn-in b k.0, k.1)
  lower-wider a b m (inr k) = ⊎_elim (λ r. inr r) (λ r. inl (r.0, r.1 a m)) (reads-in b k)

  head-wider : (positives : List ℕ) (a : ℕ) → IsMadeHead drawn heads reads positives a
      → IsMadeHead drawn2 heads2 reads2 positives a
  head-wider positives a (inl k) = inl (heads-in a k)
  head-wider positives a (inr k) =
      inr (drawn-in a k.0, each-weaker _ _ (λ b l. lower-wider a b k.0 l) positives k.1)

  read-wider : (b : ℕ) → (members drawn b || members reads b) ≡ true
      → (members drawn2 b || members reads2 b) ≡ true
  read-wider b h = ⊎_elim (λ d. or_left _ _ (drawn-in b d))
      (λ r. ⊎_elim (λ k. or_right (members drawn2 b) _ k) (λ k. or_left _ _ k.0) (reads-in b r))
      (or_cases _ _ h)

  made-wider : (rule : Rule) → IsMade drawn heads reads rule → IsMade drawn2 heads2 reads2 rule
  made-wider rule h = record {
    normal = h.normal;
    head = each-weaker _ _ (λ a k. head-wider (positives_of_body rule.body) a k)
        (atoms_of_head rule.head) h.head;
    body = each-weaker _ _ (λ b k. read-wider b k) (positives_of_body rule.body) h.body;
  }

pub Adds-wider : (heads heads2 reads : List ℕ) (s t : Stage)
    → Within (members heads) (members heads2) → Adds heads reads s t → Adds heads2 reads s t
Adds-wider heads heads2 reads s t h p = record {
  drawn = p.drawn;
  new = p.new;
  rules = p.rules;
  given = p.given;
  apart = p.apart;
  made = each-weaker _ _
      (λ rule k. made-wider p.drawn p.drawn heads heads2 reads reads (λ a m. m) h (λ b m. inl m)
      rule k)
      p.new p.made;
}

-- ---- nothing, and a rule without new atoms

pub Adds-nothing : (heads reads : List ℕ) (s : Stage) → Adds heads reads s s
Adds-nothing heads reads s = record {
  drawn = [];
  new = [];
  rules = sym (append-nil s.rules);
  given = sym (append-nil s.supply.given);
  apart = tt;
  made = tt;
}

pub Adds-rule : (s : Stage) (rule : Rule) → IsNormal rule
    → Adds (atoms_of_head rule.head) (positives_of_body rule.body) s (with_rule rule s)
Adds-rule s rule n = record {
  drawn = [];
  new = rule ∷ [];
  rules = refl;
  given = sym (append-nil s.supply.given);
  apart = tt;
  made = (
    record {
      normal = n;
      head = members-each (atoms_of_head rule.head) _ (λ a m. inl m);
      body = members-each (positives_of_body rule.body) _ (λ b m. m);
    },
    tt,
  );
}

-- ---- one behind the other

-- what is drawn later is above
pub drawn-above : (heads1 reads1 heads2 reads2 : List ℕ) (s t u : Stage) → IsStage t
    → (p : Adds heads1 reads1 s t) (q : Adds heads2 reads2 t u) (a b : ℕ)
    → members p.drawn b ≡ true → members q.drawn a ≡ true → b < a
drawn-above heads1 reads1 heads2 reads2 s t u is p q a b m d =
    let n : (0 < a) × (known t a ≡ false) = each-member _ q.drawn a q.apart d in
    let given : members t.supply.given b ≡ true =
    ap (λ xs. members xs b) p.given
    ∙ (members-append s.supply.given p.drawn b ∙ or_right (members s.supply.given b) _ m) in
    let here : known t b ≡ true =
    members-append t.supply.given t.supply.atoms b ∙ or_left _ _ given in
    ⊎_elim
    (λ l. absurd (true≢false (sym (is.dense a b given n.0 l) ∙ n.1)))
    (λ l. ⊎_elim
    (λ e. absurd (true≢false (sym here ∙ (ap (known t) (sym e) ∙ n.1))))
    (λ e. omega arith)
    (cases_eq a b))
    (cases_lt a b)

module _ (heads1 reads1 heads2 reads2 heads reads : List ℕ) (s t u : Stage)
    (same : t.supply.atoms ≡ s.supply.atoms)
    (p : Adds heads1 reads1 s t) (q : Adds heads2 reads2 t u)
    (first : Within (members heads1) (members heads))
    (second : Within (members heads2) (members heads))
    (reads-first : Within (members reads1) (members reads))
    (reads-second : (b : ℕ) → members reads2 b ≡ true
    → (members reads b ≡ true)
    ⊎ ((members p.drawn b ≡ true) × ((a : ℕ) → members q.drawn a ≡ true → b < a))) where
  known-before : (a : ℕ) → known s a ≡ true → known t a ≡ true
  known-before a h =
      members-append t.supply.given t.supply.atoms a
      ∙ ⊎_elim
      (λ k. or_left _ _
      (ap (λ xs. members xs a) p.given
      ∙ (members-append s.supply.given p.drawn a ∙ or_left _ _ k)))
      (λ k. or_right (members t.supply.given a) _ (ap (λ xs. members xs a) same ∙ k))
      (or_cases _ _ (sym (members-append s.supply.given s.supply.atoms a) ∙ h))

  new-before : (a : ℕ) → known t a ≡ false → known s a ≡ false
  new-before a f =
      false_from_ne_true (known s a) (λ e. true≢false (sym (known-before a e) ∙ f))

  drawn-first : Within (members p.drawn) (members (p.drawn ++ q.drawn))
  drawn-first a m = members-append p.drawn q.drawn a ∙ or_left _ _ m

  drawn-second : Within (members q.drawn) (members (p.drawn ++ q.drawn))
  drawn-second a m = members-append p.drawn q.drawn a ∙ or_right (members p.drawn a) _ m

  pub Adds-then : Adds heads reads s u
  Adds-then = record {
    drawn = p.drawn ++ q.drawn;
    new = p.new ++ q.new;
    rules = q.rules ∙ (ap (λ rules. rules ++ q.new) p.rules ∙ append_assoc s.rules p.new q.new);
    given = q.given
        ∙ (ap (λ xs. xs ++ q.drawn) p.given ∙ append_assoc s.supply.given p.drawn q.drawn);
    apart = each-append _ p.drawn q.drawn p.apart
        (each-weaker _ _ (λ a k. (k.0, new-before a k.1)) q.drawn q.apart);
    made = each-append _ p.new q.new
        (each-weaker _ _
        (λ rule k. made-wider p.drawn (p.drawn ++ q.drawn) heads1 heads reads1 reads
        drawn-first first (λ b m. inl (reads-first b m)) rule k)
        p.new p.made)
        (each-weaker _ _
        (λ rule k. made-wider q.drawn (p.drawn ++ q.drawn) heads2 heads reads2 reads
        drawn-second second
        (λ b m. ⊎_elim (λ r. inl r) (λ d. inr (drawn-first b d.0, d.1)) (reads-second b m))
        rule k)
        q.new q.made);
  }

-- rules over literals that stand for a body
pub Adds-behind : (heads reads : List ℕ) (lits : List Literal) (s t u : Stage)
    → t.supply.atoms ≡ s.supply.atoms → IsStage t → AddsAnswer reads lits s t
    → Adds heads (positives_of_literals lits) t u → Adds heads reads s u
Adds-behind heads reads lits s t u same is p q =
    Adds-then [] reads heads (positives_of_literals lits) heads reads s t u same p.adds q
    (λ b m. absurd (true≢false (sym m))) (λ b m. m) (λ b m. m)
    (λ b m. ⊎_elim
    (λ d. inr (
      d,
      λ a n. drawn-above [] reads heads (positives_of_literals lits) s t u is p.adds
          q a b d n,
    ))
    (λ r. inl r)
    (or_cases _ _ (each-member _ (positives_of_literals lits) b p.read m)))
