-- Chains of links.
use Rattle.std.proofs.Common.{◌≡◌, refl, sym, ◌∙◌, ap, subst, ℕ, zero, suc, ◌-◌, ◌<◌, ◌≤◌, ◌==◌, List, [], ◌∷◌, ◌++◌, length, map, reverse, set, get_or, replicate, ⊎_elim, arith}
use Rattle.std.specs.List.{AllByRecursion}
use Rattle.std.proofs.lemmas.Bool.{cases_eq, eq-eqb, ne_eqb, cond-true, cond-false}
use Rattle.std.proofs.lemmas.List.{map-set, get_or-map, reverse-append, length-reverse, get_or-reverse, length-append, length-map}
use Rattle.stable_check.specs.declared.occurrences.Link.{Link}
use Rattle.stable_check.specs.private.Links.{Entry, chain, LeadBack, rows_of, with_entry, AreLinked}
use Rattle.asp_base.proofs.Each.{each-set, each-get, each-weaker, each-push, map-same}

-- from a link that is not the newest
pub chain-older : (link : Link) (older : List Link) (at : ℕ) → at ≤ length older → chain (link ∷ older) at ≡ chain older at
chain-older link older at h = cond-false (at == suc (length older)) _ _ (ne_eqb at (suc (length older)) (λ e. omega arith))

pub chain-newest : (link : Link) (older : List Link) → chain (link ∷ older) (suc (length older)) ≡ (link.rule, link.weight) ∷ chain older link.next
chain-newest link older = cond-true (suc (length older) == suc (length older)) _ _ (eq-eqb (suc (length older)) (suc (length older)) refl)

pub chain-none : (links : List Link) → chain links 0 ≡ []
chain-none [] = refl
chain-none (link ∷ older) = chain-older link older 0 (omega arith) ∙ chain-none older

reverse-push : (links : List Link) (link : Link) → reverse (links ++ (link ∷ [])) ≡ link ∷ reverse links
reverse-push links link = reverse-append links (link ∷ [])

-- a link more, which is the first of this index now
pub rows-push : (first : List ℕ) (links : List Link) (i : ℕ) (link : Link) →
    i < length first → AllByRecursion (λ at. at ≤ length links) first → link.next ≡ get_or first i 0 →
    rows_of (set first i (suc (length links))) (links ++ (link ∷ [])) ≡ with_entry i (link.rule, link.weight) (rows_of first links)
rows-push first links i link h within next =
    let older : List Link = reverse links in
    let same : length older ≡ length links = length-reverse links in
    let F : ℕ → List Entry = chain older in
    let G : ℕ → List Entry = chain (link ∷ older) in
    let here : G (suc (length links)) ≡ (link.rule, link.weight) ∷ F link.next = ap (λ n. G (suc n)) (sym same) ∙ chain-newest link older in
    let others : map G first ≡ map F first = map-same G F first (each-weaker _ _ (λ at k. chain-older link older at (omega arith)) first within) in
    let row : get_or (map F first) i [] ≡ F link.next = get_or-map F first i 0 [] h ∙ ap F (sym next) in
    ap (λ ls. map (chain ls) (set first i (suc (length links)))) (reverse-push links link)
    ∙ map-set G first i (suc (length links))
    ∙ ap (λ rows. set rows i (G (suc (length links)))) others
    ∙ ap (λ r. set (map F first) i r) (here ∙ ap (λ r. (link.rule, link.weight) ∷ r) (sym row))

pub linked-push : (rules : ℕ) (first : List ℕ) (links : List Link) (i : ℕ) (link : Link) →
    i < length first → AreLinked rules first links → link.next ≡ get_or first i 0 → link.rule < rules →
    AreLinked rules (set first i (suc (length links))) (links ++ (link ∷ []))
linked-push rules first links i link h linked next named =
    let more : length (links ++ (link ∷ [])) ≡ suc (length links) = omega (arith, length-append {A = Link} links (link ∷ [])) in
    record {
      within = each-set _ first i (suc (length links)) (omega arith) (each-weaker _ _ (λ at k. omega arith) first linked.within);
      back = subst LeadBack (sym (reverse-push links link))
          (subst (λ n. n ≤ length (reverse links)) (sym next) (let k : get_or first i 0 ≤ length links = each-get _ first i 0 h linked.within in omega (arith, length-reverse links)), linked.back);
      numbered = each-push _ links link linked.numbered named;
    }

-- a link leads to an older one, and is the first entry from it on
pub record Leads (links : List Link) (at : ℕ) (link : Link) : Type 0 where
  pub entries : chain links at ≡ (link.rule, link.weight) ∷ chain links link.next
  pub older : link.next < at

leads : (links : List Link) (at : ℕ) (link : Link) → 0 < at → at ≤ length links → LeadBack links → link ≡ get_or links (length links - at) link → Leads links at link
leads [] at link some h back is = absurd (omega arith)
leads (newest ∷ older) at link some h back is = ⊎_elim
    (λ e.
    let first : suc (length older) - at ≡ 0 = omega arith in
    let same : link ≡ newest = is ∙ ap (λ i. get_or (newest ∷ older) i link) first in
    let down : link.next ≤ length older = subst (λ l. l.next ≤ length older) (sym same) back.0 in
    record {
      entries = ap (chain (newest ∷ older)) e ∙ chain-newest newest older
          ∙ ap (λ l. (l.rule, l.weight) ∷ chain older l.next) (sym same)
          ∙ ap (λ r. (link.rule, link.weight) ∷ r) (sym (chain-older newest older link.next down));
      older = omega arith;
    })
    (λ e.
    let within : at ≤ length older = omega arith in
    let further : suc (length older) - at ≡ suc (length older - at) = omega arith in
    let k : Leads older at link = leads older at link some within back.1 (is ∙ ap (λ i. get_or (newest ∷ older) i link) further) in
    let down : link.next < at = k.older in
    record {
      entries = chain-older newest older at within ∙ k.entries
          ∙ ap (λ r. (link.rule, link.weight) ∷ r) (sym (chain-older newest older link.next (omega arith)));
      older = k.older;
    })
    (cases_eq at (suc (length older)))

pub leads-read : (links : List Link) (at : ℕ) (link : Link) → 0 < at → at ≤ length links → LeadBack (reverse links) → link ≡ get_or links (at - 1) link → Leads (reverse links) at link
leads-read links at link some h back is =
    let same : length (reverse links) ≡ length links = length-reverse links in
    let index : length links - 1 - (length links - at) ≡ at - 1 = omega arith in
    leads (reverse links) at link some (omega arith) back
    (is ∙ ap (λ i. get_or links i link) (sym index)
    ∙ sym (get_or-reverse links (length links - at) link (omega arith))
    ∙ ap (λ n. get_or (reverse links) (n - at) link) (sym same))

pub rows-none : (n : ℕ) → rows_of (replicate n 0) [] ≡ replicate n []
rows-none zero = refl
rows-none (suc n) = ap (λ rows. [] ∷ rows) (rows-none n)

pub length-rows : (first : List ℕ) (links : List Link) → length (rows_of first links) ≡ length first
length-rows first links = length-map first (chain (reverse links))
