use Rattle.std.proofs.Common.{◌≡◌, List, [], ◌∷◌, ◌++◌, Some, sym, ap, subst, ◌∙◌}
use Rattle.co_base.specs.Letters.{IsText, most_key_bytes}
use Rattle.co_schedule.specs.Words.{Word}
use Rattle.co_schedule.proofs.Texts.{IsText-is_text}
use Rattle.co_transcript.specs.Spelling.{row_words}
use Rattle.co_transcript.specs.Rows.{last_key}
use Rattle.co_transcript.proofs.RowOrder.{above_wanted, in_order-push, last_key-push, row_words-push, AreRows-push}
use Rattle.co_transcript.proofs.reading.add_row.Goals as goal

pub push-requires : goal.push-requires
push-requires c =
    let above = above_wanted _ _ c.in_ok-name.ensures.found.1 in
    in_order-push Rattle.std.proofs.Common.None c.args.rows.now _ c.requires.order (rw (c.requires.last, c.in_ok-key.ensures) above)

pub returns-clause-found : goal.returns-clause-found
returns-clause-found c =
    ap (λ rows. row_words rows ++ c.own_value.new.words) c.in_ok-push.ensures.ok
    ∙ row_words-push c.args.rows.now _ c.own_value.new.words
    ∙ ap (λ (words : List Word). row_words c.args.rows.now ++ words) (ap (λ (k : Word). k ∷ c.in_ok-value.value ∷ c.own_value.new.words) c.in_ok-key.ensures ∙ ap (λ (words : List Word). c.in_ok-name.name.now ∷ words) (sym c.in_ok-value.ensures.found) ∙ sym c.in_ok-name.ensures.found.2)

pub returns-clause-last : goal.returns-clause-last
returns-clause-last c = ap last_key c.in_ok-push.ensures.ok ∙ last_key-push Rattle.std.proofs.Common.None c.args.rows.now _ ∙ ap Some c.in_ok-key.ensures

pub returns-clause-texts : goal.returns-clause-texts
returns-clause-texts c texts =
    let name : IsText most_key_bytes c.in_ok-key.key = rw c.in_ok-key.ensures (IsText-is_text _ _ c.in_ok-name.ensures.found.0) in
    rw c.in_ok-push.ensures.ok (AreRows-push c.args.rows.now _ texts name c.in_ok-value.ensures.text)

pub returns-clause-order : goal.returns-clause-order
returns-clause-order c =
    let above = above_wanted _ _ c.in_ok-name.ensures.found.1 in
    rw c.in_ok-push.ensures.ok (in_order-push Rattle.std.proofs.Common.None c.args.rows.now _ c.requires.order (rw (c.requires.last, c.in_ok-key.ensures) above))
