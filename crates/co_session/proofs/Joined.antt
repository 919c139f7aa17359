-- Operations and their replies, which stand in two lists, as one.
use Rattle.std.proofs.Common.{◌≡◌, ℕ, List, [], ◌∷◌, ◌++◌, length, map, reverse, zero, suc, refl, ap, sym, ◌∙◌, arith}
use Rattle.std.proofs.lemmas.List.{length-reverse, reverse-append, map-append, reverse-reverse}
use Rattle.co_base.specs.declared.reply.Reply.{Reply}
use Rattle.co_plain.specs.declared.session.Told.{Told}
use Rattle.co_serial.specs.declared.site.Site.{Site}
use Rattle.co_session.specs.Clients.{joined}

map-reverse : (os : List Told) → map (λ (o : Told). o.site) (reverse os) ≡ reverse (map (λ (o : Told). o.site) os)
map-reverse [] = refl
map-reverse (o ∷ os) =
    ap (map (λ (x : Told). x.site)) (reverse-append (o ∷ []) os) ∙ map-append (λ (x : Told). x.site) (reverse os) (o ∷ []) ∙ ap (λ xs. xs ++ o.site ∷ []) (map-reverse os)
    ∙ sym (reverse-append (o.site ∷ []) (map (λ (x : Told). x.site) os))

sites_joined : (sites : List Site) (replies : List Reply) → length replies ≡ length sites → map (λ (o : Told). o.site) (joined sites replies) ≡ sites
sites_joined [] replies same = refl
sites_joined (site ∷ sites) [] same = absurd (omega (arith, same))
sites_joined (site ∷ sites) (reply ∷ replies) same = ap (λ xs. site ∷ xs) (sites_joined sites replies (omega (arith, same)))

-- the operations, the first one first
pub operations_of : (sites : List Site) (replies : List Reply) → length replies ≡ length sites → sites ≡ map (λ (o : Told). o.site) (reverse (joined (reverse sites) replies))
operations_of sites replies same =
    sym (reverse-reverse sites) ∙ ap (λ (xs : List Site). reverse xs) (sym (sites_joined (reverse sites) replies (same ∙ sym (length-reverse sites)))) ∙ sym (map-reverse (joined (reverse sites) replies))

-- one more
pub joined_more : (sites : List Site) (replies : List Reply) (site : Site) (reply : Reply)
    → joined (reverse (sites ++ site ∷ [])) (reply ∷ replies) ≡ record { site = site; reply = reply } ∷ joined (reverse sites) replies
joined_more sites replies site reply = ap (λ xs. joined xs (reply ∷ replies)) (reverse-append sites (site ∷ []))
