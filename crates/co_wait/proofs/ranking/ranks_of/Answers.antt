-- No transaction is open.
use Rattle.std.proofs.Common.{◌≢◌, [], ◌∷◌, ◌++◌, map, sym, ap, ◌∙◌, subst, append_assoc, rules}
use Rattle.std.specs.Prelude.{All}
use Rattle.std.proofs.lemmas.List.Elements.{All-head, All-tail}
use Rattle.co_wait.specs.declared.search.Progress.TheVariants.{Open}
use Rattle.co_wait.specs.Searching.{ranked_of}
use Rattle.co_wait.proofs.Orders.{none_among}
use Rattle.co_wait.proofs.ranking.ranks_of.Goals as goal

pub rank_of-requires : goal.rank_of-requires
rank_of-requires c =
    All-head (λ e. e.1 ≢ Open) (c.in-Some.txn.now, c.in-Some.progress.now) c.next.new.self (subst (All (λ e. e.1 ≢ Open)) c.in-Some.ensures.steps c.loop-txn.invariant.none)

pub loop-txn-init : goal.loop-txn-init
loop-txn-init c = record {
  made = search rules;
  none = subst (All (λ e. e.1 ≢ Open)) (sym (c.into_iter-txn-iterator.ensures.into_iter_gives ∙ c.iter-txn-items.ensures)) (none_among c.args.known.now c.requires);
}

pub loop-txn-preserved : goal.loop-txn-preserved
loop-txn-preserved c = record {
  made =
      ap (λ list. list ++ map ranked_of c.next.new.self) (c.in_ok-push.ensures.ok ∙ ap (λ rank. c.loop-txn.ranks ++ rank ∷ []) c.rank_of.ensures)
      ∙ append_assoc c.loop-txn.ranks (ranked_of (c.in-Some.txn.now, c.in-Some.progress.now) ∷ []) (map ranked_of c.next.new.self)
      ∙ ap (λ list. c.loop-txn.ranks ++ map ranked_of list) (sym c.in-Some.ensures.steps)
      ∙ c.loop-txn.invariant.made;
  none = All-tail (λ e. e.1 ≢ Open) (c.in-Some.txn.now, c.in-Some.progress.now) c.next.new.self (subst (All (λ e. e.1 ≢ Open)) c.in-Some.ensures.steps c.loop-txn.invariant.none);
}
