-- How takes of bytes that are known to be left join.
use Rattle.std.proofs.Common.{◌≡◌, ℕ, ◌+◌, ◌<◌, List, [], ◌++◌, length, Option, Some, None, refl, sym, ap, ◌∙◌, append_assoc, length-append, arith}
use Rattle.std.specs.Prelude.{IfSome}
use Rattle.std.specs.Io.KnownBytes.{Appends, Consumes, IsAtEnd, Keeps}
use Rattle.std.proofs.lemmas.Bool.{cond-true, lt-ltb}
use Rattle.std.proofs.lemmas.List.{append-nil}
use Rattle.ob_text.specs.declared.held.Held.{Held}
use Rattle.ob_text.specs.declared.held.Held.TheVariants.{TooLarge}
use Rattle.ob_text.specs.Held.{held_of, text_limit}

pub keeps_same : (known : Option (List ℕ)) → Keeps known known
keeps_same None = tt
keeps_same (Some bytes) = refl

pub keeps_keeps : (a b c : Option (List ℕ)) → Keeps a b → Keeps b c → Keeps a c
keeps_keeps None b c first second = tt
keeps_keeps (Some xs) None c first second = absurd first
keeps_keeps (Some xs) (Some ys) None first second = absurd second
keeps_keeps (Some xs) (Some ys) (Some zs) first second = second ∙ first

pub keeps_consumes : (a b c : Option (List ℕ)) (bytes : List ℕ) → Keeps a b → Consumes b c bytes → Consumes a c bytes
keeps_consumes None b c bytes first second = tt
keeps_consumes (Some xs) None c bytes first second = absurd first
keeps_consumes (Some xs) (Some ys) None bytes first second = absurd second
keeps_consumes (Some xs) (Some ys) (Some zs) bytes first second = sym first ∙ second

pub keeps_appends : (a b c : Option (List ℕ)) (bytes : List ℕ) → Keeps a b → Appends b c bytes → Appends a c bytes
keeps_appends None b c bytes first second = tt
keeps_appends (Some xs) None c bytes first second = absurd first
keeps_appends (Some xs) (Some ys) None bytes first second = absurd second
keeps_appends (Some xs) (Some ys) (Some zs) bytes first second = second ∙ ap (λ held. held ++ bytes) first

-- to add nothing changes nothing
pub appends_nothing : (a b : Option (List ℕ)) → Appends a b [] → Keeps a b
appends_nothing None b added = tt
appends_nothing (Some xs) None added = absurd added
appends_nothing (Some xs) (Some ys) added = added ∙ append-nil xs

-- to take nothing and be at the end is to have been there
pub keeps_end : (a b c : Option (List ℕ)) → Keeps a b → Consumes b c [] → IsAtEnd c → IsAtEnd a
keeps_end None b c first second end = tt
keeps_end (Some xs) None c first second end = absurd first
keeps_end (Some xs) (Some ys) None first second end = absurd second
keeps_end (Some xs) (Some ys) (Some zs) first second end = sym first ∙ (second ∙ end)

pub consumes_nothing : (known : Option (List ℕ)) → Consumes known known []
consumes_nothing None = tt
consumes_nothing (Some bytes) = refl

pub consumes_append : (a b c : Option (List ℕ)) (xs ys : List ℕ) → Consumes a b xs → Consumes b c ys → Consumes a c (xs ++ ys)
consumes_append None b c xs ys first second = tt
consumes_append (Some whole) None c xs ys first second = absurd first
consumes_append (Some whole) (Some left) None xs ys first second = absurd second
consumes_append (Some whole) (Some left) (Some rest) xs ys first second =
    first ∙ (ap (λ bytes. xs ++ bytes) second ∙ sym (append_assoc xs ys rest))

-- bytes that were taken up to the end are the whole
pub whole_at_end : (whole left : Option (List ℕ)) (bytes : List ℕ) (held : Held) → Consumes whole left bytes → IsAtEnd left → held ≡ held_of bytes → IfSome whole (λ all. held ≡ held_of all)
whole_at_end None left bytes held taken end is = tt
whole_at_end (Some all) None bytes held taken end is = absurd taken
whole_at_end (Some all) (Some rest) bytes held taken end is =
    is ∙ ap (λ xs. held_of xs) (sym (taken ∙ (ap (λ xs. bytes ++ xs) end ∙ append-nil bytes)))

-- where more than the limit was taken, the whole is too large
pub whole_too_large : (whole left : Option (List ℕ)) (bytes : List ℕ) → Consumes whole left bytes → text_limit < length bytes → IfSome whole (λ all. TooLarge ≡ held_of all)
whole_too_large None left bytes taken long = tt
whole_too_large (Some all) None bytes taken long = absurd taken
whole_too_large (Some all) (Some rest) bytes taken long =
    let whole : length all ≡ length bytes + length rest = ap length taken ∙ length-append bytes rest in
    let longer : text_limit < length all = omega arith in
    sym (cond-true _ TooLarge _ (lt-ltb text_limit (length all) longer))
