-- A run over a directory in memory, and one that goes on over what it left.
use Rattle.std.proofs.Common.{ℕ, Bool, true, false, ◌≡◌, List, [], ◌∷◌, codes, length, Some, Option, inl, refl, subst}
use Rattle.std.specs.List.{AllByRecursion}
use Rattle.co_base.specs.declared.node.Node.{Node}
use Rattle.co_outside.specs.declared.home_memory.HomeMemory.{HomeMemory}
use Rattle.co_outside.specs.declared.spot.Spot.{Spot}
use Rattle.co_outside.specs.Home.{File}
use Rattle.co_outside.specs.HomeMemory.{memory_file, memory_seen}
use Rattle.co_durable.specs.Nodes.{nodes_of}
use Rattle.co_durable.specs.Told.{IsTold, AreTold}
use Rattle.co_top.specs.Headline.{CommitsTogether, IsWholeRun}
use Rattle.co_top.specs.Ran.{Ran, IsRunEnd}
use Rattle.co_top.specs.declared.status.Status.{Status}
use Rattle.co_top.specs.declared.status.Status.TheVariants as status
use Rattle.co_top.specs.Running.{RunsAs}
use Rattle.co_top.specs.Views.{SourceView, SinkView, source_seen, sink_seen}
use Rattle.co_two_runs.specs.declared.runs.TwoRuns.{TwoRuns}
use Rattle.co_two_runs.specs.TwoRuns.{IsWell, HasRunWell, HasEnded, HaveEnded}

-- a directory in memory tells the files of every node
all_told : (home : HomeMemory) (nodes : List Node) → AllByRecursion (IsTold (memory_file home)) nodes
all_told home [] = tt
all_told home (node ∷ nodes) = ((_, _, refl, refl), all_told home nodes)

pub told : (home : HomeMemory) (members coords : ℕ) → AreTold (memory_file home) members coords
told home members coords = all_told home (nodes_of members coords)

-- what was whole is well
pub well : {resume : Bool} {input : List ℕ} {old : Spot → Option File} (r : Ran resume input old) (home : HomeMemory) → CommitsTogether r (memory_file home) → IsWell r (memory_file home)
well r home together = record { together = together; records = together.logs_alone (told home (length r.head.kinds) r.head.coords) }

-- a run that was done did all lines of its input
pub done_run : (resume : Bool) (input held : List ℕ) (left new_told : Option (List ℕ)) (old new : HomeMemory) (ended : Status) → ended ≡ status.Done
    → IsRunEnd memory_seen resume input left held new_told old new ended
    → ((r : Ran resume input (memory_file old)) → AreTold (memory_file old) (length r.head.kinds) r.head.coords → r.rest ≡ [] → IsWholeRun r held (memory_file new) new_told)
    → HasRunWell resume input (memory_file old) (memory_file new)
done_run resume input held left new_told old new ended is end whole = by (subst (IsRunEnd memory_seen resume input left held new_told old new) is end)
  where
    by : IsRunEnd memory_seen resume input left held new_told old new status.Done → HasRunWell resume input (memory_file old) (memory_file new)
    by (IsRunEnd.Stopped done files stop) = record {
      ran = done.ran;
      done = stop;
      well = λ sound. well done.ran new ((whole done.ran (told old (length done.ran.head.kinds) done.ran.head.coords) stop).together sound);
    }
    by (IsRunEnd.NoHead untold same fault) = absurd fault
    by (IsRunEnd.Unopened untold why) = absurd (why.cause)
    by (IsRunEnd.CutOff done files cut) = absurd (cc)
    by (IsRunEnd.Failed done files fault) = absurd fault
    by (IsRunEnd.Wanted done files want) = absurd (cc)

-- a run over a source and a sink that have not failed
pub ended_run : (resume : Bool) (input : List ℕ) (left held : Option (List ℕ)) (source_faults out_faults : ℕ) (source : SourceView) (out : SinkView) (old new : HomeMemory) (ended : Status)
    → left ≡ Some input → source_faults ≡ 0 → held ≡ Some [] → out_faults ≡ 0
    → RunsAs memory_seen resume (codes "logs") (source_seen left source_faults) source (sink_seen held out_faults) out old new ended
    → (ended ≡ status.Done → HasRunWell resume input (memory_file old) (memory_file new)) → HasEnded resume input old new ended
ended_run resume input left held source_faults out_faults source out old new ended l n h m runs done = record {
  source = source;
  out = out;
  runs = subst (λ (v : SourceView × SinkView). RunsAs memory_seen resume (codes "logs") v.0 source v.1 out old new ended) (λ i. (source_seen (l i) (n i), sink_seen (h i) (m i))) runs;
  done = done;
}

-- what the first one left is sound for the second one
pub twice : (first second : List ℕ) (old between new : HomeMemory) (ended : TwoRuns) → HasEnded false first old between ended.first → HasEnded true second between new ended.second → HaveEnded first second old new ended
twice first second old between new ended one two = record {
  between = between;
  one = one;
  two = two;
  first_is_well = first_well;
  second_is_well = λ first_done second_done kinds coords.
      let ran = one.done first_done in
      (two.done second_done).well ((first_well first_done).together.goes_on (told between (length ran.ran.head.kinds) ran.ran.head.coords) second (two.done second_done).ran kinds coords);
}
  where
    first_well : (done : ended.first ≡ status.Done) → IsWell (one.done done).ran (memory_file between)
    first_well done = (one.done done).well (inl refl)
