-- One more item of a list that is made of another, item by item.
use Rattle.std.proofs.Common.{◌≡◌, ℕ, ◌+◌, ◌<◌, List, [], ◌∷◌, ◌++◌, length, get_or, map, take, ap, sym, subst, ◌∙◌}
use Rattle.std.specs.List.{All}
use Rattle.std.proofs.lemmas.List.{map_more}
use Rattle.std.proofs.lemmas.List.Elements.{All-push}

pub made_more : {A B : Type 0} (f : A → B) (xs : List A) (i : ℕ) (x : A) (ys zs : List B) (y : B) → i < length xs → x ≡ get_or xs i x → y ≡ f x → ys ≡ map f (take i xs)
    → zs ≡ ys ++ y ∷ [] → zs ≡ map f (take (i + 1) xs)
made_more f xs i x ys zs y h at is are pushed =
    pushed ∙ (ap (λ b. ys ++ b ∷ []) (is ∙ ap f at) ∙ (ap (λ bs. bs ++ f (get_or xs i x) ∷ []) are ∙ sym (map_more f xs i x h)))

pub hold_more : {B : Type 0} (P : B → Type 0) (ys zs : List B) (y : B) → All P ys → P y → zs ≡ ys ++ y ∷ [] → All P zs
hold_more P ys zs y all one pushed = subst (All P) (sym pushed) (All-push P ys y all one)
