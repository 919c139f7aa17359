-- The messages of coordinators are true when they are sent.
use Rattle.std.proofs.Common.{◌≡◌, ◌≢◌, ◌⊎◌, inl, inr, ℕ, zero, suc, Bool, true, false, not, cond, ◌||◌, ◌==◌, ◌≤◌, ◌<◌, ◌+◌, if◌then◌else◌, List, [], ◌∷◌, filter, Some, refl, sym, ap, ◌∙◌, subst, arith}
use Rattle.std.proofs.lemmas.Bool.Decides.{nat_tests}
use Rattle.std.specs.Ordering.{nat_cmp}
use Rattle.std.specs.declared.cmp.Ordering.{Ordering}
use Rattle.std.specs.declared.cmp.Ordering.TheVariants.{Less, Equal, Greater}
use Rattle.std.specs.FinMap.Entries.{by_order}
use Rattle.std.proofs.lemmas.Bool.{or_cases, or_left, or_right, or_from, eq-eqb, ne_eqb}
use Rattle.co_base.specs.declared.part.Part.{Part}
use Rattle.co_message.specs.declared.message.Message.TheVariants as message
use Rattle.co_plain.specs.declared.coord_state.Entry.TheVariants as entry
use Rattle.co_plain.specs.declared.session.Told.{Told}
use Rattle.co_plain.specs.Numbers.{has_number, numbers_lacking}
use Rattle.co_plain.specs.CoordStep.{has_part}
use Rattle.co_base.specs.Parts.{with_part}
use Rattle.co_plain.specs.Sessions.{count_at, parts_of}
use Rattle.co_plain.specs.Federation.{Federation}
use Rattle.co_plain.specs.Decisions.{told_of}
use Rattle.co_state.specs.Table.{look}
use Rattle.co_law_base.proofs.Sending.{Allowed, told_parts}

-- the members of participants ascend, each with its count
abbrev Above : ℕ → List Part → Type 0
Above k [] = Unit {0}
Above k (p ∷ ps) = (k < p.member) × Above k ps

abbrev pub EachPart : (Part → Type 0) → List Part → Type 0
EachPart P [] = Unit {0}
EachPart P (p ∷ ps) = P p × EachPart P ps

abbrev Ascend : List Part → Type 0
Ascend [] = Unit {0}
Ascend (p ∷ ps) = Above p.member ps × Ascend ps

above_all : (j k : ℕ) (ps : List Part) → j < k → Above k ps → Above j ps
above_all j k [] l a = tt
above_all j k (p ∷ ps) l a = (omega (arith, l, a.0), above_all j k ps l a.1)

less_is : (a b : ℕ) → nat_cmp a b ≡ Less → a < b
less_is a b e = grind (arith, nat_tests, e)

greater_is : (a b : ℕ) → nat_cmp a b ≡ Greater → b < a
greater_is a b e = grind (arith, nat_tests, e)

equal_is : (a b : ℕ) → nat_cmp a b ≡ Equal → a ≡ b
equal_is a b e = grind (arith, nat_tests, e)

above_more : (j k : ℕ) (ps : List Part) → j < k → Above j ps → Above j (with_part k ps)
above_more j k [] l a = (l, tt)
above_more j k (p ∷ ps) l a = by (above_more j k ps l a.1) (nat_cmp k p.member) refl
  where
    by : Above j (with_part k ps) → (o : Ordering) → nat_cmp k p.member ≡ o → Above j (with_part k (p ∷ ps))
    by rest Less e = subst (λ o. Above j (by_order o (record { member = k; count = 1 } ∷ p ∷ ps) (record { member = p.member; count = p.count + 1 } ∷ ps) (p ∷ with_part k ps))) (sym e) (l, a)
    by rest Equal e = subst (λ o. Above j (by_order o (record { member = k; count = 1 } ∷ p ∷ ps) (record { member = p.member; count = p.count + 1 } ∷ ps) (p ∷ with_part k ps))) (sym e) a
    by rest Greater e = subst (λ o. Above j (by_order o (record { member = k; count = 1 } ∷ p ∷ ps) (record { member = p.member; count = p.count + 1 } ∷ ps) (p ∷ with_part k ps))) (sym e) (a.0, rest)

ascend_more : (k : ℕ) (ps : List Part) → Ascend ps → Ascend (with_part k ps)
ascend_more k [] a = (tt, tt)
ascend_more k (p ∷ ps) a = by (ascend_more k ps a.1) (nat_cmp k p.member) refl
  where
    by : Ascend (with_part k ps) → (o : Ordering) → nat_cmp k p.member ≡ o → Ascend (with_part k (p ∷ ps))
    by rest Less e =
        subst (λ o. Ascend (by_order o (record { member = k; count = 1 } ∷ p ∷ ps) (record { member = p.member; count = p.count + 1 } ∷ ps) (p ∷ with_part k ps))) (sym e)
        ((less_is k p.member e, above_all k p.member ps (less_is k p.member e) a.0), a)
    by rest Equal e = subst (λ o. Ascend (by_order o (record { member = k; count = 1 } ∷ p ∷ ps) (record { member = p.member; count = p.count + 1 } ∷ ps) (p ∷ with_part k ps))) (sym e) a
    by rest Greater e =
        subst (λ o. Ascend (by_order o (record { member = k; count = 1 } ∷ p ∷ ps) (record { member = p.member; count = p.count + 1 } ∷ ps) (p ∷ with_part k ps))) (sym e)
        (above_more p.member k ps (greater_is k p.member e) a.0, rest)

parts_ascend : (os : List Told) → Ascend (parts_of os)
parts_ascend [] = tt
parts_ascend (o ∷ os) = ascend_more o.site.member (parts_of os) (parts_ascend os)

-- a count for each member: that of the others stays, and that of one grows
abbrev Counts : (ℕ → ℕ) → List Part → Type 0
Counts f ps = EachPart (λ p. p.count ≡ f p.member) ps

no_more : (k : ℕ) (f g : ℕ → ℕ) (ps : List Part) → ((n : ℕ) → n ≢ k → g n ≡ f n) → Above k ps → Counts f ps → Counts g ps
no_more k f g [] h a c = tt
no_more k f g (p ∷ ps) h a c = (c.0 ∙ sym (h p.member (λ e. let l : k < k = subst (λ n. k < n) e a.0 in omega (arith, l))), no_more k f g ps h a.1 c.1)

counts_more : (k : ℕ) (f g : ℕ → ℕ) (ps : List Part) → ((n : ℕ) → n ≢ k → g n ≡ f n) → g k ≡ f k + 1 → (has_part ps k ≡ false → f k ≡ 0) → Ascend ps → Counts f ps → Counts g (with_part k ps)
counts_more k f g [] h one none a c = (sym (one ∙ ap (λ n. n + 1) (none refl)), tt)
counts_more k f g (p ∷ ps) h one none a c = by (counts_more k f g ps h one) (nat_cmp k p.member) refl
  where
    above_lacks : (qs : List Part) → Above k qs → has_part qs k ≡ false
    above_lacks [] b = refl
    above_lacks (q ∷ qs) b = or_from (q.member == k) (has_part qs k) (ne_eqb q.member k (λ e. let l : k < k = subst (λ n. k < n) e b.0 in omega (arith, l))) (above_lacks qs b.1)

    by : ((has_part ps k ≡ false → f k ≡ 0) → Ascend ps → Counts f ps → Counts g (with_part k ps)) → (o : Ordering) → nat_cmp k p.member ≡ o → Counts g (with_part k (p ∷ ps))
    by rest Less e =
        let l = less_is k p.member e in
        let up : Above k (p ∷ ps) = (l, above_all k p.member ps l a.0) in
        subst (λ o. Counts g (by_order o (record { member = k; count = 1 } ∷ p ∷ ps) (record { member = p.member; count = p.count + 1 } ∷ ps) (p ∷ with_part k ps))) (sym e)
        (sym (one ∙ ap (λ n. n + 1) (none (above_lacks (p ∷ ps) up))), no_more k f g (p ∷ ps) h up c)
    by rest Equal e =
        let same = equal_is k p.member e in
        subst (λ o. Counts g (by_order o (record { member = k; count = 1 } ∷ p ∷ ps) (record { member = p.member; count = p.count + 1 } ∷ ps) (p ∷ with_part k ps))) (sym e)
        (ap (λ n. n + 1) c.0 ∙ sym (ap g (sym same) ∙ one ∙ ap (λ n. f n + 1) same), no_more k f g ps h (subst (λ n. Above n ps) (sym same) a.0) c.1)
    by rest Greater e =
        let l = greater_is k p.member e in
        let apart : p.member ≢ k = λ q. let z : k < k = subst (λ n. n < k) q l in omega (arith, z) in
        subst (λ o. Counts g (by_order o (record { member = k; count = 1 } ∷ p ∷ ps) (record { member = p.member; count = p.count + 1 } ∷ ps) (p ∷ with_part k ps))) (sym e)
        (c.0 ∙ sym (h p.member apart), rest (λ n. none (or_from (p.member == k) (has_part ps k) (ne_eqb p.member k apart) n)) a.1 c.1)

none_told : (os : List Told) (k : ℕ) → has_part (parts_of os) k ≡ false → count_at os k ≡ 0
none_told os k h = by (count_at os k) refl
  where
    by : (n : ℕ) → count_at os k ≡ n → count_at os k ≡ 0
    by zero e = e
    by (suc n) e = absurd (let l : 1 ≤ count_at os k = subst (λ j. 1 ≤ j) (sym e) (omega arith) in let z : true ≡ false = sym (told_parts os k l) ∙ h in cc)

-- each participant's count is that of its operations
parts_counted : (os : List Told) → Counts (count_at os) (parts_of os)
parts_counted [] = tt
parts_counted (o ∷ os) =
    counts_more o.site.member (count_at os) (count_at (o ∷ os)) (parts_of os)
    (λ n d. ap (λ b. if b then count_at os n + 1 else count_at os n) (ne_eqb o.site.member n (λ e. d (sym e))))
    (ap (λ b. if b then count_at os o.site.member + 1 else count_at os o.site.member) (eq-eqb o.site.member o.site.member refl))
    (none_told os o.site.member) (parts_ascend os) (parts_counted os)

pub each_filter : (P : Part → Type 0) (test : Part → Bool) (ps : List Part) → EachPart P ps → EachPart P (filter test ps)
each_filter P test [] h = tt
each_filter P test (p ∷ ps) h = by (each_filter P test ps h.1) (test p)
  where
    by : EachPart P (filter test ps) → (b : Bool) → EachPart P (cond b (p ∷ filter test ps) (filter test ps))
    by rest true = (h.0, rest)
    by rest false = rest

pub lacking_among : (ns given : List ℕ) (m : ℕ) → has_number (numbers_lacking ns given) m ≡ true → has_number ns m ≡ true
lacking_among [] given m h = h
lacking_among (n ∷ ns) given m h = by (lacking_among ns given m) (not (has_number given n)) h
  where
    by : (has_number (numbers_lacking ns given) m ≡ true → has_number ns m ≡ true) → (b : Bool) → has_number (cond b (n ∷ numbers_lacking ns given) (numbers_lacking ns given)) m ≡ true → ((n == m) || has_number ns m) ≡ true
    by rest true k = now (or_cases (n == m) (has_number (numbers_lacking ns given) m) k)
      where
        now : ((n == m) ≡ true) ⊎ (has_number (numbers_lacking ns given) m ≡ true) → ((n == m) || has_number ns m) ≡ true
        now (inl e) = or_left (n == m) (has_number ns m) e
        now (inr e) = or_right (n == m) (has_number ns m) (rest e)
    by rest false k = or_right (n == m) (has_number ns m) (rest k)

-- the prepares of a collecting transaction
each_has : (all ps : List Part) → ((m : ℕ) → has_part ps m ≡ true → has_part all m ≡ true) → (f : ℕ → ℕ) → Counts f ps → EachPart (λ p. (has_part all p.member ≡ true) × (p.count ≡ f p.member)) ps
each_has all [] h f c = tt
each_has all (p ∷ ps) h f c = (
  (h p.member (or_left (p.member == p.member) (has_part ps p.member) (eq-eqb p.member p.member refl)), c.0),
  each_has all ps (λ m k. h m (or_right (p.member == m) (has_part ps m) k)) f c.1,
)

each_map : (P Q : Part → Type 0) (ps : List Part) → ((p : Part) → P p → Q p) → EachPart P ps → EachPart Q ps
each_map P Q [] h e = tt
each_map P Q (p ∷ ps) h e = (h p e.0, each_map P Q ps h e.1)

pub prepares_allowed : (s : Federation) (t c : ℕ) (parts : List Part) (yeses : List ℕ) → look (s.coord c).table t ≡ Some (entry.Collecting parts yeses) → parts ≡ parts_of (told_of s t) →
    EachPart (λ p. Allowed s (message.Prepare t c p.member p.count)) parts
prepares_allowed s t c parts yeses e told =
    each_map (λ p. (has_part parts p.member ≡ true) × (p.count ≡ count_at (told_of s t) p.member)) (λ p. Allowed s (message.Prepare t c p.member p.count)) parts
    (λ p h. (parts, yeses, e, h.0, h.1))
    (each_has parts parts (λ m k. k) (count_at (told_of s t)) (subst (Counts (count_at (told_of s t))) (sym told) (parts_counted (told_of s t))))
