-- A command that follows a schedule, and that nothing hinders, comes to its end, or wants memory.
use Rattle.std.proofs.Common.{◌≡◌, ◌⊎◌, inl, inr, ℕ, List, Option, refl, ◌∙◌}
use Rattle.co_outside.specs.Faults.{HasRisen}
use Rattle.co_top.specs.Front.{IsHeadFault}
use Rattle.co_top.specs.Following.{RanFresh, IsHalt, NoHead, Halted, IsFollowedEnd, IsUnstopped, Written, CutOff, Unwritten}
use Rattle.co_top.specs.declared.status.LimitKind.TheVariants as limit
use Rattle.co_top.specs.declared.status.Status.{Status}
use Rattle.co_top.specs.declared.status.Status.TheVariants as status
use Rattle.co_top.proofs.Completing.{never_stopped}
use Rattle.co_top.proofs.Reading.{head_is_some, head_is_short}

module _ (input : List ℕ) (Has : List ℕ → Type 0) (text_of : (i : List ℕ) → Has i → List ℕ) (held : List ℕ) (told : Option (List ℕ)) (a b c d : ℕ) (f : IsUnstopped input a b c d) (ended : Status) (read : ended ≡ status.Read → HasRisen a b) (write : ended ≡ status.Write → HasRisen c d) where
  -- the source failed, or there was no memory

  wanting : (s : Status) → ended ≡ s → (s ≡ status.Read) ⊎ (s ≡ status.Memory) → (ended ≡ status.Done) ⊎ (ended ≡ status.Memory)
  wanting s is (inl e) = absurd (f.source (read (is ∙ e)))
  wanting s is (inr e) = inr (is ∙ e)

  -- the head is one
  headed : (s : Status) → ended ≡ s → IsHeadFault input s → (ended ≡ status.Done) ⊎ (ended ≡ status.Memory)
  headed (status.Schedule line what) is fault = absurd (head_is_some input f.schedule.head f.schedule.text f.schedule.headed line what fault)
  headed (status.Limit (limit.Line line)) is fault = absurd (head_is_short input f.schedule.head f.schedule.text f.schedule.headed line fault)
  headed status.Read is fault = absurd (f.source (read is))
  headed status.Memory is fault = inr is
  headed _ is fault = absurd fault

  -- and no line halts it
  halted : (fresh : RanFresh input) (s : Status) → ended ≡ s → IsHalt fresh s → (ended ≡ status.Done) ⊎ (ended ≡ status.Memory)
  halted fresh (status.Limit limit.Transactions) is cause = absurd (f.few fresh cause)
  halted fresh (status.Limit (limit.Log spot)) is cause = absurd (f.room fresh spot cause)
  halted fresh (status.Limit (limit.Line line)) is cause = wanting (status.Limit (limit.Line line)) is (never_stopped input f.schedule fresh.ran (status.Limit (limit.Line line)) cause)
  halted fresh (status.Limit limit.Lines) is cause = wanting (status.Limit limit.Lines) is (never_stopped input f.schedule fresh.ran (status.Limit limit.Lines) cause)
  halted fresh (status.Schedule line what) is cause = wanting (status.Schedule line what) is (never_stopped input f.schedule fresh.ran (status.Schedule line what) cause)
  halted fresh status.Read is cause = absurd (f.source (read is))
  halted fresh status.Memory is cause = inr is
  halted fresh _ is cause = absurd cause

  pub done_or_wanting : IsFollowedEnd input Has text_of held told ended → (ended ≡ status.Done) ⊎ (ended ≡ status.Memory)
  done_or_wanting (Written h put is) = inl is
  done_or_wanting (CutOff h count put (inl is)) = absurd (f.out (write is))
  done_or_wanting (CutOff h count put (inr is)) = inr is
  done_or_wanting (Unwritten same (NoHead fault)) = headed ended refl fault
  done_or_wanting (Unwritten same (Halted fresh cause)) = halted fresh ended refl cause
