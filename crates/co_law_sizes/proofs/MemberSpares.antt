-- A member's log at a checkpoint.
use Rattle.std.proofs.Common.{◌≡◌, ℕ, suc, ◌+◌, ◌*◌, ◌≤◌, Bool, true, false, List, [], ◌∷◌, length, map, refl, ap, arith}
use Rattle.std.specs.FinMap.{entries, keys}
use Rattle.co_base.specs.declared.node.Node.TheVariants as node
use Rattle.co_record.specs.declared.record.Record.{Record}
use Rattle.co_record.specs.declared.record.Record.TheVariants as log
use Rattle.co_frame.specs.Gate.{batch_is_stable, closes_spare}
use Rattle.co_state.specs.declared.engine_state.Vote.{Vote}
use Rattle.co_state.specs.Effects.{dumped_rows, dumped_undos}
use Rattle.co_plain.specs.declared.member_state.MemberState.{MemberState}
use Rattle.co_plain.specs.declared.outcome.Outcome.{Outcome}
use Rattle.co_plain.specs.declared.outcome.Outcome.TheVariants.{Completes, StopsAt}
use Rattle.co_plain.specs.Numbers.{next_generation}
use Rattle.co_plain.specs.LogWrite.{outcome_of, generation_of, with_filled_spare, with_spare}
use Rattle.co_plain.specs.MemberView.{recovered_view}
use Rattle.co_plain.specs.MemberStep.{member_down}
use Rattle.co_plain.specs.Member.{prepare_record}
use Rattle.co_plain.specs.MemberLog.{prepares_onto, member_spare, stopped_fill, fill_by, close_by, checkpoint_by, member_checkpoint}
use Rattle.co_plain.specs.Invariants.{Memory, view}
use Rattle.co_log.specs.Sizes.{log_bytes}
use Rattle.co_law_base.proofs.Filling.{spare_tells}
use Rattle.co_law_sizes.proofs.Weights.{weighs}
use Rattle.co_law_sizes.proofs.Bytes.{voted_weight}
use Rattle.co_law_sizes.proofs.Dumps.{voted_bytes, dump_bytes}
use Rattle.co_law_sizes.proofs.Records.{headers, generation_bound, older_bytes, older_headers, header_bytes, checkpoint_bytes, prepare_bytes}
use Rattle.co_law_sizes.proofs.LightMembers.{Light, view_weight, number_weight, active_bytes, light_more, light_down}

-- votes that are told again
prepares_bytes : (rs : List Record) (es : List (ℕ × Vote)) → log_bytes (prepares_onto rs es) + 2 * voted_bytes es ≤ log_bytes rs + 3 * weighs voted_weight es
prepares_bytes rs [] = omega arith
prepares_bytes rs (e ∷ es) =
    omega (arith, prepares_bytes (prepare_record e.0 e.1.coord e.1.count e.1.sets ∷ rs) es, prepare_bytes e.0 e.1.coord e.1.count e.1.sets)

prepares_headers : (rs : List Record) (es : List (ℕ × Vote)) → headers (prepares_onto rs es) ≡ headers rs
prepares_headers rs [] = refl
prepares_headers rs (e ∷ es) = prepares_headers (prepare_record e.0 e.1.coord e.1.count e.1.sets ∷ rs) es

numbers_weight : (es : List (ℕ × Unit {0})) → weighs number_weight es ≡ 4 * length (map (λ e. e.0) es)
numbers_weight [] = refl
numbers_weight (e ∷ es) = omega (arith, numbers_weight es)

module _ (n g m : ℕ) (x : MemberState) (l : Light n g x) where
  -- a filled spare takes no more than thrice what the member holds, and a little
  spare_bytes : (generation : ℕ) → log_bytes (member_spare m x generation) + active_bytes x.engine ≤ 31 + 3 * n
  spare_bytes generation =
      omega (
        arith,
        l.memory,
        dump_bytes x.engine.kind x.engine,
        numbers_weight (entries x.committed),
        header_bytes (node.Member m) generation,
        checkpoint_bytes (dumped_rows x.engine.kind x.engine) (dumped_undos x.engine.kind x.engine) (keys x.committed),
        prepares_bytes (log.Checkpoint (dumped_rows x.engine.kind x.engine) (dumped_undos x.engine.kind x.engine) (keys x.committed) ∷ log.Header (node.Member m) generation ∷ []) (entries x.engine.voted),
      )

  spare_headers : (generation : ℕ) → headers (member_spare m x generation) ≡ generation
  spare_headers generation = omega (arith, prepares_headers (log.Checkpoint (dumped_rows x.engine.kind x.engine) (dumped_undos x.engine.kind x.engine) (keys x.committed) ∷ log.Header (node.Member m) generation ∷ []) (entries x.engine.voted))

  spare_weight : (generation : ℕ) → view_weight (recovered_view (member_spare m x generation)) ≡ view_weight (view Memory x)
  spare_weight generation = ap view_weight (spare_tells m x generation)

  stable_bytes : log_bytes x.log.stable ≤ 31 + 3 * n
  stable_bytes = omega (arith, l.bytes, older_bytes x.log.waiting x.log.stable)

  stable_headers : headers x.log.stable ≤ g
  stable_headers = omega (arith, l.headed, older_headers x.log.waiting x.log.stable)

  -- a crash at any moment leaves what is stable
  pub light_crash : Light n g (member_down x x.log)
  light_crash = light_down n g x.engine.kind x.log l.stable stable_bytes stable_headers

  up_one : next_generation (generation_of x.log.stable) ≤ suc g
  up_one = omega (arith, generation_bound x.log.stable, stable_headers)

  pub light_checkpoint : Light n (suc g) (member_checkpoint m x).state
  light_checkpoint = by x.log.spare_closed
    where
      generation : ℕ
      generation = next_generation (generation_of x.log.stable)

      down : Light n (suc g) (member_down x x.log)
      down = light_more n g n (suc g) (member_down x x.log) (omega arith) (omega arith) light_crash

      tells : view_weight (recovered_view (member_spare m x generation)) + active_bytes x.engine ≤ n
      tells = omega (arith, spare_weight generation, l.memory)

      headed : headers (member_spare m x generation) ≤ suc g
      headed = omega (arith, spare_headers generation, up_one)

      stopped : (call : ℕ) (c : Bool) → Light n (suc g) (stopped_fill m x generation call c).state
      stopped call true = light_down n (suc g) x.engine.kind (with_filled_spare x.log (member_spare m x generation)) (omega (arith, tells)) (omega (arith, spare_bytes generation)) headed
      stopped call false = down

      fills : (o : Outcome) → Light n (suc g) (fill_by m x generation o).state
      fills Completes = record { memory = l.memory; told = tells; stable = omega (arith, tells); bytes = spare_bytes generation; headed = headed }
      fills (StopsAt call leaves) = stopped call (batch_is_stable call leaves)

      closes : (o : Outcome) → Light n (suc g) (close_by x o).state
      closes Completes = record { memory = l.memory; told = l.told; stable = l.stable; bytes = l.bytes; headed = omega (arith, l.headed) }
      closes (StopsAt call leaves) = light_down n (suc g) x.engine.kind (with_spare x.log (closes_spare leaves)) l.stable stable_bytes (omega (arith, stable_headers))

      by : (b : Bool) → Light n (suc g) (checkpoint_by m x b).state
      by false = closes (outcome_of x.log.armed 2)
      by true = fills (outcome_of x.log.armed 4)
