-- Where readers, and transactions that change what they read, stand in every serial order.
use Rattle.std.proofs.Common.{◌≡◌, ◌≢◌, ◌⊎◌, inl, inr, ℕ, zero, suc, ◌<◌, ◌≤◌, Bool, true, false, T, List, [], ◌∷◌, map, length, take, slice_get, is_some, Option, None, Some, refl, sym, ap, ◌∙◌, subst, eqb→eq, eq-eqb, arith, lt_of_not-le, eq-or-lt_of_le, le_of_lt, le_refl, le_of_eq, lt_of_lt_of_le}
use Rattle.std.specs.Prelude.{◌==◌}
use Rattle.std.specs.FinMap.{get}
use Rattle.co_serial.specs.SerialRun.{AllRecords, after_site, after_whole, run_whole, reply_to}
use Rattle.co_check.specs.Runs.{sites, replies}
use Rattle.co_check.specs.declared.client.Answered.{Answered}
use Rattle.co_check.specs.declared.client.Committed.{Committed}
use Rattle.co_order_check.specs.Order.{operations}
use Rattle.co_order_check.specs.Paths.{ReadsFromOthers, IsOnlySource, IsReading, IsPath, end, IsBehind, IsNone}
use Rattle.co_order_check.specs.Ranks.{Leaves, IsUntouched, IsLeftBy, IsSeen, Ran, Ranks}
use Rattle.co_order_check.specs.Reads.{Content, left, over, tells}
use Rattle.co_order_check.specs.declared.reading.Reading.{Reading}
use Rattle.co_order_check.specs.declared.record_id.RecordId.{RecordId}
use Rattle.co_order_check.proofs.Telling.{run_leaves, told_is}

-- each operation is answered on what those before it left
pub reply_at : (all : AllRecords) (told : List Answered) (p : ℕ) (a : Answered) → replies told ≡ run_whole all (sites told) → slice_get told p ≡ Some a →
    a.reply ≡ reply_to (after_whole all (sites (take p told)) a.site.member) a.site.op
reply_at all [] p a e h = absurd (let z : None ≡ Some a = h in cc)
reply_at all (x ∷ told) zero a e h =
    let same : x ≡ a = cc in
    let first : x.reply ≡ reply_to (all x.site.member) x.site.op = cc in
    subst (λ (y : Answered). y.reply ≡ reply_to (all y.site.member) y.site.op) same first
reply_at all (x ∷ told) (suc p) a e h =
    let rest : replies told ≡ run_whole (after_site all x.site) (sites told) = cc in
    reply_at (after_site all x.site) told p a rest h

-- what is told of a record before the transaction changes it is what stood there
pub told_from_others : (all : AllRecords) (told : List Answered) (p : ℕ) (a : Answered) (r : RecordId) (v : Content) → replies told ≡ run_whole all (sites told) →
    slice_get told p ≡ Some a → left r (take p told) ≡ None → tells r a ≡ Some v → get (all r.member) r.key ≡ v
told_from_others all told p a r v e h own t =
    sym (run_leaves all (take p told) r None (get (all r.member) r.key) refl ∙ ap (λ o. over o (get (all r.member) r.key)) own)
    ∙ told_is (after_whole all (sites (take p told))) r a v (reply_at all told p a e h) t

-- and after that what it left
pub told_own : (all : AllRecords) (told : List Answered) (p : ℕ) (a : Answered) (r : RecordId) (own v : Content) → replies told ≡ run_whole all (sites told) →
    slice_get told p ≡ Some a → left r (take p told) ≡ Some own → tells r a ≡ Some v → own ≡ v
told_own all told p a r own v e h left_there t =
    sym (run_leaves all (take p told) r None (get (all r.member) r.key) refl ∙ ap (λ o. over o (get (all r.member) r.key)) left_there)
    ∙ told_is (after_whole all (sites (take p told))) r a v (reply_at all told p a e h) t

module _ {ds : List Committed} (w : Ranks ds) where
  pub reads_seen : (t place : ℕ) (r : RecordId) (v : Content) → ReadsFromOthers ds t place r v → IsSeen ds w.rank t r v
  reads_seen t place r v h =
      let ran = w.ran t h.one in
      subst (IsSeen ds w.rank t r) (told_from_others ran.on (operations ds t) place h.at_place r v ran.same h.is_at h.own h.told) (ran.sees r)

  -- a transaction that is not before another one, and is another, is behind it
  pub beyond : (t u : ℕ) → t < length ds → u < length ds → u ≢ t → (w.rank u < w.rank t → ⊥) → w.rank t < w.rank u
  beyond t u h k ne never = lt_of_not-le (λ le. elim (eq-or-lt_of_le le) [ inl e ↦ ne (w.apart u t k h e) | inr l ↦ never l ])

  pub record Stands (t : ℕ) (r : RecordId) (source : Option ℕ) : Type 0 where
    pub behind : IsBehind w.rank source t
    pub others : (u : ℕ) → u < length ds → Leaves ds u r → u ≢ t → IsBehind w.rank source u → w.rank t < w.rank u

  apart_ranks : (s t : ℕ) → w.rank s < w.rank t → s ≢ t
  apart_ranks s t l e = let z = ap w.rank e in omega (arith, z, l)

  stands_by : (t : ℕ) (r : RecordId) (v : Content) (source : Option ℕ) → t < length ds → IsOnlySource ds t r v source → IsSeen ds w.rank t r v → Stands t r source
  stands_by t r v None h only (inl n) = record { behind = tt; others = λ u k l ne b. beyond t u h k ne (n.none u k l) }
  stands_by t r v None h only (inr (s, l)) = absurd (only.1 s l.one (apart_ranks s t l.before) l.left_there)
  stands_by t r v (Some s) h only (inl n) = absurd (let z : false ≡ true = sym (ap is_some n.missing) ∙ only.0 in cc)
  stands_by t r v (Some s) h only (inr (q, l)) = by (q == s) refl
    where
      by : (b : Bool) → (q == s) ≡ b → Stands t r (Some s)
      by true e =
          let same : q ≡ s = eqb→eq q s (subst T (sym e) tt) in
          record {
            behind = subst (λ z. w.rank z < w.rank t) same l.before;
            others = λ u k c ne b. beyond t u h k ne (l.last u k c (subst (λ z. w.rank z < w.rank u) (sym same) b));
          }
      by false e = absurd (only.1 q l.one (apart_ranks q t l.before) (λ z. let y : (q == s) ≡ true = eq-eqb q s z in (let x : true ≡ false = sym y ∙ e in cc)) l.left_there)

  stands : (x : Reading) → IsReading ds x → Stands x.reader x.record x.source
  stands x h = stands_by x.reader x.record x.value x.source h.reads.one h.source (reads_seen x.reader x.place x.record x.value h.reads)

  -- a path leads on to later and later readers
  pub along : (r : RecordId) (s t : ℕ) (xs : List Reading) → IsPath ds r (Some s) xs → end (Some s) xs ≡ Some t → w.rank s ≤ w.rank t
  along r s t [] p e = let same : s ≡ t = cc in le_of_eq (ap w.rank same)
  along r s t (x ∷ xs) p e =
      let one : w.rank s < w.rank x.reader = subst (λ o. IsBehind w.rank o x.reader) p.2 (stands x p.0).behind in
      let rest : w.rank x.reader ≤ w.rank t = along r x.reader t xs p.3 e in
      omega (arith, one, rest)

  pub along_strictly : (r : RecordId) (s t : ℕ) (x : Reading) (xs : List Reading) → IsPath ds r (Some s) (x ∷ xs) → end (Some s) (x ∷ xs) ≡ Some t → w.rank s < w.rank t
  along_strictly r s t x xs p e =
      let one : w.rank s < w.rank x.reader = subst (λ o. IsBehind w.rank o x.reader) p.2 (stands x p.0).behind in
      let rest : w.rank x.reader ≤ w.rank t = along r x.reader t xs p.3 e in
      omega (arith, one, rest)

  -- who changes the record, is not on the path and stands behind its beginning, stands behind its end
  pub behind_all : (r : RecordId) (from : Option ℕ) (xs : List Reading) (u : ℕ) → IsPath ds r from xs → u < length ds → Leaves ds u r → IsNone u xs → IsBehind w.rank from u →
      IsBehind w.rank (end from xs) u
  behind_all r from [] u p k l n b = b
  behind_all r from (x ∷ xs) u p k l n b =
      behind_all r (Some x.reader) xs u p.3 k l n.1
      ((stands x p.0).others u k (subst (Leaves ds u) (sym p.1) l) n.0 (subst (λ o. IsBehind w.rank o u) (sym p.2) b))
