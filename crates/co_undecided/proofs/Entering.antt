-- What each call leaves of the entries.
use Rattle.std.proofs.Common.{◌≡◌, ◌≢◌, ℕ, ◌+◌, List, ◌∷◌, length, Option, None, Some, refl, sym, ap, ◌∙◌, suc, add-one}
use Rattle.co_base.specs.declared.op.Op.{Op}
use Rattle.co_state.specs.declared.engine_state.EngineState.{EngineState}
use Rattle.co_state.specs.declared.engine_state.Operation.{Operation}
use Rattle.co_state.specs.declared.engine_state.Vote.{Vote}
use Rattle.co_state.specs.Changes.{sets_of}
use Rattle.co_state.specs.Effects.{with_operation, after_cast}
use Rattle.co_state.specs.EngineState.{operations_of, operations_in}
use Rattle.co_state.specs.ReadRule.{snapshot_of}
use Rattle.co_state.specs.Table.{Table, look, put, without}
use Rattle.co_plain.specs.declared.member_state.AskedMark.{AskedMark}
use Rattle.co_undecided.specs.declared.entry.Entry.{Entry}
use Rattle.co_undecided.specs.declared.entry.Entry.TheVariants.{Active, Voted}
use Rattle.co_undecided.specs.Kept.{entry_at, entry_of, kept_in, asked_in, changed}
use Rattle.co_undecided.proofs.Numbered.{here, there, gone, left, by_number}

module _ (b : EngineState) (asked : Table AskedMark) (es : Table Entry) (t : ℕ) (entries : (u : ℕ) → look es u ≡ entry_at b asked u) where
  pub operated : (op : Op) → look b.voted t ≡ None → (look b.active t ≡ None → look asked t ≡ None) →
      (u : ℕ) → look (put es t (Active (kept_in (look es t) + 1) (asked_in (look es t)))) u ≡ entry_at (with_operation b t op) asked u
  operated op unvoted unmarked u =
      by_number (λ u. look (put es t (Active (kept_in (look es t) + 1) (asked_in (look es t)))) u ≡ entry_at (with_operation b t op) asked u) t u
      (here es t (Active (kept_in (look es t) + 1) (asked_in (look es t))) ∙ ap (λ e. Some (Active (kept_in e + 1) (asked_in e))) (entries t ∙ ap (λ v. entry_of (look b.active t) v (look asked t)) unvoted)
      ∙ by (look b.active t) refl unmarked ∙ sym now)
      (λ n. there es t _ u n ∙ entries u ∙ ap (λ a. entry_of a (look b.voted u) (look asked u)) (sym (there b.active t (o ∷ operations_of b t) u n)))
    where
      o : Operation
      o = record { op = op; stamp = snapshot_of b t }

      now : entry_at (with_operation b t op) asked t ≡ Some (Active (suc (length (operations_of b t))) (look asked t))
      now = ap (λ a. entry_of a (look b.voted t) (look asked t)) (here b.active t (record { op = op; stamp = snapshot_of b t } ∷ operations_of b t))
          ∙ ap (λ v. entry_of (Some (record { op = op; stamp = snapshot_of b t } ∷ operations_of b t)) v (look asked t)) unvoted

      by : (a : Option (List Operation)) → look b.active t ≡ a → (look b.active t ≡ None → look asked t ≡ None) →
          Some (Active (kept_in (entry_of (look b.active t) None (look asked t)) + 1) (asked_in (entry_of (look b.active t) None (look asked t))))
          ≡ Some (Active (suc (length (operations_in (look b.active t)))) (look asked t))
      by (Some os) e h =
          ap (λ a. Some (Active (kept_in (entry_of a None (look asked t)) + 1) (asked_in (entry_of a None (look asked t))))) e
          ∙ ap (λ n. Some (Active n (look asked t))) (add-one (length os)) ∙ ap (λ a. Some (Active (suc (length (operations_in a))) (look asked t))) (sym e)
      by None e h =
          ap (λ a. Some (Active (kept_in (entry_of a None (look asked t)) + 1) (asked_in (entry_of a None (look asked t))))) e
          ∙ ap (λ m. Some (Active 1 m)) (sym (h e)) ∙ ap (λ a. Some (Active (suc (length (operations_in a))) (look asked t))) (sym e)

  pub marked : (mark : AskedMark) (os : List Operation) → look b.voted t ≡ None → look b.active t ≡ Some os →
      (u : ℕ) → look (changed es t (Active (kept_in (look es t)) (Some mark)) (look es t)) u ≡ entry_at b (put asked t mark) u
  marked mark os unvoted active u =
      by_number (λ u. look (changed es t (Active (kept_in (look es t)) (Some mark)) (look es t)) u ≡ entry_at b (put asked t mark) u) t u
      (ap (λ m. look m t) is_put ∙ here es t (Active (length os) (Some mark)) ∙ sym now)
      (λ n. ap (λ m. look m u) is_put ∙ there es t _ u n ∙ entries u ∙ ap (entry_of (look b.active u) (look b.voted u)) (sym (there asked t mark u n)))
    where
      old : look es t ≡ Some (Active (length os) (look asked t))
      old = entries t ∙ ap (λ v. entry_of (look b.active t) v (look asked t)) unvoted ∙ ap (λ a. entry_of a None (look asked t)) active

      is_put : changed es t (Active (kept_in (look es t)) (Some mark)) (look es t) ≡ put es t (Active (length os) (Some mark))
      is_put = ap (λ e. changed es t (Active (kept_in e) (Some mark)) e) old

      now : entry_at b (put asked t mark) t ≡ Some (Active (length os) (Some mark))
      now = ap (λ v. entry_of (look b.active t) v (look (put asked t mark) t)) unvoted ∙ ap (λ a. entry_of a None (look (put asked t mark) t)) active
          ∙ ap (entry_of (Some os) None) (here asked t mark)

  pub voted : (coord count : ℕ) (os : List Operation) → look b.voted t ≡ None → look b.active t ≡ Some os →
      (u : ℕ) → look (changed es t (Voted coord count) (look es t)) u ≡ entry_at (after_cast b t coord count) (without asked t) u
  voted coord count os unvoted active u =
      by_number (λ u. look (changed es t (Voted coord count) (look es t)) u ≡ entry_at (after_cast b t coord count) (without asked t) u) t u
      (ap (λ m. look m t) is_put ∙ here es t (Voted coord count) ∙ sym (ap (λ v. entry_of (look (without b.active t) t) v (look (without asked t) t)) (here b.voted t vote)))
      (λ n. ap (λ m. look m u) is_put ∙ there es t _ u n ∙ entries u ∙ sym (ap (λ a. entry_of a (look (put b.voted t vote) u) (look (without asked t) u)) (left b.active t u n)
      ∙ ap (λ v. entry_of (look b.active u) v (look (without asked t) u)) (there b.voted t vote u n) ∙ ap (entry_of (look b.active u) (look b.voted u)) (left asked t u n)))
    where
      vote : Vote
      vote = record { coord = coord; count = count; sets = sets_of (operations_of b t) }

      is_put : changed es t (Voted coord count) (look es t) ≡ put es t (Voted coord count)
      is_put = ap (changed es t (Voted coord count)) (entries t ∙ ap (λ v. entry_of (look b.active t) v (look asked t)) unvoted ∙ ap (λ a. entry_of a None (look asked t)) active)

  -- a transaction leaves
  pub taken : (c : EngineState) (marks : Table AskedMark) → entry_at c marks t ≡ None → ((u : ℕ) → u ≢ t → entry_at c marks u ≡ entry_at b asked u) →
      (u : ℕ) → look (without es t) u ≡ entry_at c marks u
  taken c marks none same u =
      by_number (λ u. look (without es t) u ≡ entry_at c marks u) t u (gone es t ∙ sym none) (λ n. left es t u n ∙ entries u ∙ sym (same u n))
