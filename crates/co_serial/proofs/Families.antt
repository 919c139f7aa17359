-- The list of all members' records, read as a family.
use Rattle.std.proofs.Common.{◌≡◌, T, ℕ, zero, suc, ◌+◌, ◌<◌, ◌≤◌, ◌≢◌, eqb→eq, eq-eqb, Bool, true, false, if◌then◌else◌, List, [], ◌∷◌, ◌++◌, length, take, drop, append_assoc, add-one, drop-cons, get_or, set, Result, Ok, Err, OnOk, OnErr, refl, sym, ap, ◌∙◌, subst, arith}
use Rattle.std.specs.Prelude.{◌==◌}
use Rattle.std.proofs.lemmas.List.{take_more}
use Rattle.std.specs.FinMap.{empty}
use Rattle.co_serial.specs.Records.{Records}
use Rattle.co_serial.specs.declared.site.Site.{Site}
use Rattle.co_base.specs.declared.reply.Reply.{Reply}
use Rattle.co_serial.specs.SerialRun.{AllRecords, with_at, reply_to, after_site, run_whole, after_whole}
use Rattle.co_serial.specs.Family.{family_of}

family-push_at : (rs : List Records) (i : ℕ) → family_of (rs ++ empty ∷ []) i ≡ family_of rs i
family-push_at [] zero = refl
family-push_at [] (suc i) = refl
family-push_at (r ∷ rs) zero = refl
family-push_at (r ∷ rs) (suc i) = family-push_at rs i

-- a member without records changes nothing
pub family-push : (rs : List Records) → family_of (rs ++ empty ∷ []) ≡ family_of rs
family-push rs = λ i m. family-push_at rs m i

pub family-get_or : (rs : List Records) (i : ℕ) (d : Records) → i < length rs → family_of rs i ≡ get_or rs i d
family-get_or [] i d h = absurd (omega arith)
family-get_or (r ∷ rs) zero d h = refl
family-get_or (r ∷ rs) (suc i) d h = family-get_or rs i d (omega arith)

pub family-past : (rs : List Records) (i : ℕ) → length rs ≤ i → family_of rs i ≡ empty
family-past [] i h = refl
family-past (r ∷ rs) zero h = absurd (omega arith)
family-past (r ∷ rs) (suc i) h = family-past rs i (omega arith)

family-set_same : (rs : List Records) (m : ℕ) (r : Records) → m < length rs → family_of (set rs m r) m ≡ r
family-set_same [] m r h = absurd (omega arith)
family-set_same (x ∷ rs) zero r h = refl
family-set_same (x ∷ rs) (suc m) r h = family-set_same rs m r (omega arith)

family-set_other : (rs : List Records) (m : ℕ) (r : Records) (i : ℕ) → m ≢ i → family_of (set rs m r) i ≡ family_of rs i
family-set_other [] m r i h = refl
family-set_other (x ∷ rs) zero r zero h = absurd (h refl)
family-set_other (x ∷ rs) zero r (suc i) h = refl
family-set_other (x ∷ rs) (suc m) r zero h = refl
family-set_other (x ∷ rs) (suc m) r (suc i) h = family-set_other rs m r i (λ e. h (ap suc e))

choose : {X : Type 0} {x p q : X} (b : Bool) → (b ≡ true → x ≡ p) → (b ≡ false → x ≡ q) → x ≡ (if b then p else q)
choose true f g = f refl
choose false f g = g refl

-- one place of the list changes one member
pub family-set : (rs : List Records) (m : ℕ) (r : Records) → m < length rs → family_of (set rs m r) ≡ with_at (family_of rs) m r
family-set rs m r h = λ i n.
    choose (m == n)
    (λ t. let e : m ≡ n = eqb→eq m n (subst T (sym t) tt) in subst (λ k. family_of (set rs m r) k ≡ r) e (family-set_same rs m r h))
    (λ f. family-set_other rs m r n (λ e. let w : (m == n) ≡ true = eq-eqb m n e in cc)) i

after_whole-push : (all : AllRecords) (sites : List Site) (site : Site) → after_whole all (sites ++ site ∷ []) ≡ after_site (after_whole all sites) site
after_whole-push all [] site = refl
after_whole-push all (s ∷ sites) site = after_whole-push (after_site all s) sites site

-- the loop over the sites of a transaction goes on by one site
pub record OneMore (start all : AllRecords) (sites : List Site) (replies : List Reply) (place : ℕ) : Type 0 where
  pub answered : replies ++ run_whole all (drop place sites) ≡ run_whole start sites
  pub left : after_whole all (drop place sites) ≡ after_whole start sites
  pub prefix : all ≡ after_whole start (take place sites)

pub one_more : (start all : AllRecords) (sites : List Site) (replies : List Reply) (place : ℕ) (site : Site) → place < length sites → site ≡ get_or sites place site
    → replies ++ run_whole all (drop place sites) ≡ run_whole start sites
    → after_whole all (drop place sites) ≡ after_whole start sites
    → all ≡ after_whole start (take place sites)
    → OneMore start (after_site all site) sites (replies ++ reply_to (all site.member) site.op ∷ []) (place + 1)
one_more start all sites replies place site h is answered left prefix =
    let e : drop place sites ≡ site ∷ drop (place + 1) sites = rw add-one (drop-cons sites place site h ∙ ap (λ s. s ∷ drop (suc place) sites) (sym is)) in
    let t : take (place + 1) sites ≡ take place sites ++ site ∷ [] = take_more sites place site h ∙ ap (λ s. take place sites ++ s ∷ []) (sym is) in
    record {
      answered = append_assoc replies _ _ ∙ ap (λ ss. replies ++ run_whole all ss) (sym e) ∙ answered;
      left = ap (after_whole all) (sym e) ∙ left;
      prefix = ap (λ a. after_site a site) prefix ∙ sym (after_whole-push start (take place sites) site) ∙ ap (after_whole start) (sym t);
    }

-- the place of a member, of which there is one now
pub record Placed (self items : List Records) (member place : ℕ) (old : Records) : Type 0 where
  pub old_is : family_of self member ≡ old
  pub changed : (new : Records) → family_of (set items place new) ≡ with_at (family_of self) member new

pub placed : (self before items : List Records) (member place : ℕ) (old : Records) → before ≡ self → family_of items ≡ family_of before → member < length items → place ≡ member → old ≡ get_or items place old → Placed self items member place old
placed self before items member place old b same h p o =
    let f : family_of items ≡ family_of self = same ∙ ap family_of b in
    let l : place < length items = subst (λ k. k < length items) (sym p) h in
    record {
      old_is = ap (λ k. family_of self k) (sym p) ∙ sym (λ i. f i place) ∙ family-get_or items place old l ∙ sym o;
      changed = λ new. family-set items place new l ∙ (λ i. with_at (f i) (p i) new);
    }

pub on_ok : {X E : Type 0} (r : Result X E) {A B : Type 0} → (A → B) → OnOk r A → OnOk r B
on_ok (Ok x) f h = f h
on_ok (Err e) f h = tt

pub on_err : {X E : Type 0} (r : Result X E) {A B : Type 0} → (A → B) → OnErr r A → OnErr r B
on_err (Ok x) f h = tt
on_err (Err e) f h = f h

pub any_err : {X E : Type 0} (r : Result X E) {A : Type 0} → A → OnErr r A
any_err (Ok x) h = tt
any_err (Err e) h = h
