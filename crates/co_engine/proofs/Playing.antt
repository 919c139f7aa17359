-- Commands played one after another.
use Rattle.std.proofs.Common.{◌≡◌, ℕ, ◌+◌, ◌<◌, List, [], ◌∷◌, ◌++◌, length, take, get_or, refl, sym, ap, ◌∙◌, subst}
use Rattle.std.proofs.lemmas.List.{take_more}
use Rattle.co_state.specs.declared.engine_state.EngineState.{EngineState}
use Rattle.co_engine.specs.declared.command.Command.{Command}
use Rattle.co_engine.specs.declared.command.Played.{Played}
use Rattle.co_engine.specs.Play.{IsPlayed, ArePlayed, after_command, after_commands}

after-push : (b : EngineState) (cs : List Command) (c : Command) → after_commands b (cs ++ c ∷ []) ≡ after_command (after_commands b cs) c
after-push b [] c = refl
after-push b (d ∷ cs) c = after-push (after_command b d) cs c

played-push : (b : EngineState) (cs : List Command) (ps : List Played) (c : Command) (p : Played) → ArePlayed b cs ps → IsPlayed (after_commands b cs) c p → ArePlayed b (cs ++ c ∷ []) (ps ++ p ∷ [])
played-push b [] [] c p h k = (k, tt)
played-push b [] (q ∷ ps) c p h k = absurd h
played-push b (d ∷ cs) [] c p h k = absurd h
played-push b (d ∷ cs) (q ∷ ps) c p h k = (h.0, played-push (after_command b d) cs ps c p h.1 k)

next : (cs : List Command) (i : ℕ) (c : Command) → i < length cs → c ≡ get_or cs i c → take i cs ++ c ∷ [] ≡ take (i + 1) cs
next cs i c h is = ap (λ d. take i cs ++ d ∷ []) is ∙ sym (take_more cs i c h)

-- the state after one command more
pub after_more : (b : EngineState) (cs : List Command) (i : ℕ) (c : Command) → i < length cs → c ≡ get_or cs i c → after_command (after_commands b (take i cs)) c ≡ after_commands b (take (i + 1) cs)
after_more b cs i c h is = sym (after-push b (take i cs) c) ∙ ap (after_commands b) (next cs i c h is)

-- one answer more
pub played_more : (b : EngineState) (cs : List Command) (ps : List Played) (i : ℕ) (c : Command) (p : Played) → i < length cs → c ≡ get_or cs i c
    → ArePlayed b (take i cs) ps → IsPlayed (after_commands b (take i cs)) c p → ArePlayed b (take (i + 1) cs) (ps ++ p ∷ [])
played_more b cs ps i c p h is played k = subst (λ ds. ArePlayed b ds (ps ++ p ∷ [])) (next cs i c h is) (played-push b (take i cs) ps c p played k)
