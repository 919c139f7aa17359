-- What a coordinator's records tell of ends: one that waits is that of a commit without end, and a batch that has it ends that commit.
use Rattle.std.proofs.Common.{◌≡◌, ◌≢◌, ℕ, Bool, true, false, ◌||◌, ◌&&◌, ◌==◌, List, [], ◌∷◌, ◌++◌, map, reverse, refl, sym, ap, ◌∙◌, subst}
use Rattle.std.specs.List.{list_any}
use Rattle.std.specs.Option.{is_some}
use Rattle.std.proofs.lemmas.Bool.{eqb-true, false_from_ne_true}
use Rattle.std.proofs.lemmas.List.{reverse-append}
use Rattle.std.proofs.lemmas.List.Folds.{list_any-append}
use Rattle.co_base.specs.declared.mark.Mark.{Mark}
use Rattle.co_base.specs.declared.node.Node.{Node}
use Rattle.co_message.specs.declared.answer.Answer.{Answer}
use Rattle.co_message.specs.declared.message.Message.{Message}
use Rattle.co_record.specs.declared.record.Record.{Record}
use Rattle.co_record.specs.declared.record.Record.TheVariants as log
use Rattle.co_record.specs.Marks.{mark_of}
use Rattle.co_state.specs.Table.{holds, without}
use Rattle.co_plain.specs.CoordView.{recovered_commits}
use Rattle.co_plain.specs.Federation.{items_of}
use Rattle.co_plain.specs.Invariants.{ends_only}
use Rattle.co_plain.specs.LogWrite.{marks_of}
use Rattle.co_plain.specs.SoundLogs.{has_unended}
use Rattle.co_law_base.proofs.Commits.{commit_there}
use Rattle.co_law_base.proofs.Facts.{Rest, OnlyAborts}
use Rattle.co_law_moves.proofs.Onward.{back_without, holds_without_here, none_without}
use Rattle.co_law_once.specs.Once.{AtMostOnce, is_end, tells_end}
use Rattle.co_law_once.proofs.Walking.{once_append}

clash : {A : Type 0} → false ≡ true → A
clash h = absurd (let z : false ≡ true = h in cc)

-- the end record of the transaction, and its mark
abbrev pub ends_it : ℕ → Record → Bool
ends_it t (log.End u) = u == t
ends_it t _ = false

abbrev pub marks_end : ℕ → Mark → Bool
marks_end t mark = is_end mark.kind && (mark.number == t)

-- An end waits once, and only where the stable records have its commit without end.
pub record Waits (t : ℕ) (waiting stable : List Record) : Type 0 where
  pub once : AtMostOnce (ends_it t) waiting
  pub unended : list_any (ends_it t) waiting ≡ true → has_unended stable t ≡ true

pub waits_none : (t : ℕ) (stable : List Record) → Waits t [] stable
waits_none t stable = record { once = tt; unended = λ h. clash h }

-- ends that are laid over records
pub ended_over : (waiting stable : List Record) (t : ℕ) → ends_only waiting ≡ true → list_any (ends_it t) waiting ≡ true → has_unended (waiting ++ stable) t ≡ false
ended_over [] stable t e h = clash h
ended_over (log.End u ∷ rs) stable t e h = by (ended_over rs stable t e) (u == t) refl
  where
    by : (list_any (ends_it t) rs ≡ true → has_unended (rs ++ stable) t ≡ false) → (b : Bool) → (u == t) ≡ b → holds (without (recovered_commits (rs ++ stable)).unended u) t ≡ false
    by rest true q = ap (holds (without (recovered_commits (rs ++ stable)).unended u)) (sym (eqb-true u t q)) ∙ holds_without_here (recovered_commits (rs ++ stable)).unended u
    by rest false q = none_without (recovered_commits (rs ++ stable)).unended u t (rest (sym (ap (λ b. b || list_any (ends_it t) rs) q) ∙ h))
ended_over (log.Header a b ∷ rs) stable t e h = clash e
ended_over (log.Prepare a b c d x ∷ rs) stable t e h = clash e
ended_over (log.Commit a b ∷ rs) stable t e h = clash e
ended_over (log.Abort a ∷ rs) stable t e h = clash e
ended_over (log.Checkpoint a b c ∷ rs) stable t e h = clash e

pub unended_under : (waiting stable : List Record) (t : ℕ) → ends_only waiting ≡ true → has_unended (waiting ++ stable) t ≡ true → has_unended stable t ≡ true
unended_under [] stable t e h = h
unended_under (log.End u ∷ rs) stable t e h = unended_under rs stable t e (back_without (recovered_commits (rs ++ stable)).unended u t h)
unended_under (log.Header a b ∷ rs) stable t e h = clash e
unended_under (log.Prepare a b c d x ∷ rs) stable t e h = clash e
unended_under (log.Commit a b ∷ rs) stable t e h = clash e
unended_under (log.Abort a ∷ rs) stable t e h = clash e
unended_under (log.Checkpoint a b c ∷ rs) stable t e h = clash e

pub other_commit : (rs : List Record) (u : ℕ) (members : List ℕ) (t : ℕ) → u ≢ t → has_unended (log.Commit u members ∷ rs) t ≡ has_unended rs t
other_commit rs u members t n = ap is_some (commit_there rs u members t n)

-- no end waits at a member
pub aborts_end_none : (r : Rest) (t : ℕ) (rs : List Record) → OnlyAborts r rs → list_any (ends_it t) rs ≡ false
aborts_end_none r t [] w = refl
aborts_end_none r t (log.Abort u ∷ rs) w = aborts_end_none r t rs w.1
aborts_end_none r t (log.Header a b ∷ rs) w = absurd w
aborts_end_none r t (log.Prepare a b c d e ∷ rs) w = absurd w
aborts_end_none r t (log.Commit a b ∷ rs) w = absurd w
aborts_end_none r t (log.End a ∷ rs) w = absurd w
aborts_end_none r t (log.Checkpoint a b c ∷ rs) w = absurd w

-- ---- the marks of records tell of the same ends

module _ (at : Node) (t : ℕ) where
  map_more : (f : Record → Mark) (xs ys : List Record) → map f (xs ++ ys) ≡ map f xs ++ map f ys
  map_more f [] ys = refl
  map_more f (x ∷ xs) ys = ap (λ zs. f x ∷ zs) (map_more f xs ys)

  newest_last : (r : Record) (rs : List Record) → marks_of at (r ∷ rs) ≡ marks_of at rs ++ mark_of at r ∷ []
  newest_last r rs = ap (map (mark_of at)) (reverse-append (r ∷ []) rs) ∙ map_more (mark_of at) (reverse rs) (r ∷ [])

  one_mark : (r : Record) → marks_end t (mark_of at r) ≡ ends_it t r
  one_mark (log.Header a b) = refl
  one_mark (log.Prepare a b c d e) = refl
  one_mark (log.Commit a b) = refl
  one_mark (log.Abort a) = refl
  one_mark (log.End a) = refl
  one_mark (log.Checkpoint a b c) = refl

  turned : (a b : Bool) → (b || (a || false)) ≡ (a || b)
  turned true true = refl
  turned true false = refl
  turned false true = refl
  turned false false = refl

  pub any_marks : (rs : List Record) → list_any (marks_end t) (marks_of at rs) ≡ list_any (ends_it t) rs
  any_marks [] = refl
  any_marks (r ∷ rs) =
      ap (list_any (marks_end t)) (newest_last r rs)
      ∙ list_any-append (marks_end t) (marks_of at rs) (mark_of at r ∷ [])
      ∙ (λ i. any_marks rs i || (one_mark r i || false))
      ∙ turned (ends_it t r) (list_any (ends_it t) rs)

  pub once_marks : (rs : List Record) → AtMostOnce (ends_it t) rs → AtMostOnce (marks_end t) (marks_of at rs)
  once_marks [] a = tt
  once_marks (r ∷ rs) a =
      subst (AtMostOnce (marks_end t)) (sym (newest_last r rs))
      (once_append (marks_end t) (marks_of at rs) (mark_of at r ∷ []) (once_marks rs a.1) (λ h. alone (sym (any_marks rs) ∙ h)) ((λ h. refl), tt))
    where
      alone : list_any (ends_it t) rs ≡ true → list_any (marks_end t) (mark_of at r ∷ []) ≡ false
      alone h = ap (λ b. b || false) (one_mark r ∙ false_from_ne_true (ends_it t r) (λ k. let z : true ≡ false = sym h ∙ a.0 k in cc))

-- and so do the items of an event
pub any_items : (t : ℕ) (marks : List Mark) (notes : List Message) (a : Answer) → list_any (tells_end t) (items_of marks notes a) ≡ list_any (marks_end t) marks
any_items t (mark ∷ marks) notes a = ap (λ b. marks_end t mark || b) (any_items t marks notes a)
any_items t [] (note ∷ notes) a = any_items t [] notes a
any_items t [] [] a = refl

pub once_items : (t : ℕ) (marks : List Mark) (notes : List Message) (a : Answer) → AtMostOnce (marks_end t) marks → AtMostOnce (tells_end t) (items_of marks notes a)
once_items t (mark ∷ marks) notes a o = ((λ h. any_items t marks notes a ∙ o.0 h), once_items t marks notes a o.1)
once_items t [] (note ∷ notes) a o = ((λ h. clash h), once_items t [] notes a tt)
once_items t [] [] a o = ((λ h. clash h), tt)
