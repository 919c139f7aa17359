use Rattle.std.proofs.Common.{◌≡◌, ◌∙◌, ℕ, suc, ◌-◌, List, [], ◌∷◌, ◌++◌, drop, take, length, refl, ap, subst, arith}
use Rattle.std.proofs.Math.Seq.{take-length}
use Rattle.co_schedule.specs.Words.{behind, spaced}
use Rattle.co_top.specs.Looking.{looked_words, looked_text}
use Rattle.co_top.specs.Telling.{IsTextPut}
use Rattle.co_top.specs.declared.reader.Looked.{Looked}
use Rattle.co_top.specs.declared.reader.Looked.TheVariants as looked
use Rattle.co_top.proofs.looking.tell_looked.Goals as goal

-- there is a first word, and a space before it
first_word : (seen : Looked) → behind (looked_words seen) ≡ 32 ∷ spaced (looked_words seen)
first_word looked.NoMember = refl
first_word looked.Unopened = refl
first_word looked.NotMv = refl
first_word looked.Down = refl
first_word looked.Lost = refl
first_word (looked.Rows rows) = refl

line_of : (seen : Looked) (text : List ℕ) → text ≡ behind (looked_words seen) ++ 10 ∷ [] → take (length text - 1) (drop 1 text) ≡ looked_text seen
line_of seen text is =
    ap (λ (t : List ℕ). take (length t - 1) (drop 1 t)) (is ∙ ap (λ t. t ++ 10 ∷ []) (first_word seen))
    ∙ ap (λ n. take n (looked_text seen)) (let e : suc (length (looked_text seen)) - 1 ≡ length (looked_text seen) = omega arith in e)
    ∙ take-length (looked_text seen)

pub returns-clause-told : goal.returns-clause-told
returns-clause-told g c =
    let text = c.deref.ensures.value ∙ c.in_ok-push.ensures.items ∙ ap (λ (t : List ℕ). t ++ 10 ∷ []) (c.in_ok-append_looked.ensures ∙ ap (λ (t : List ℕ). t ++ behind (looked_words c.args.seen)) c.new-text.ensures.items) in
    subst (λ (t : List ℕ). IsTextPut t (g.K.Sink.told c.args.out.now) (g.K.Sink.told c.put.new.out) c.put.result) (line_of c.args.seen c.deref.result.now text) c.put.ensures.put
