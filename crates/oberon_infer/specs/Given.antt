-- The arguments of a call, as far as a predeclared procedure looks at them: one, two, or another number of them.
use Rattle.std.specs.Prelude.{List, [], ◌∷◌}
use Rattle.oberon_infer.specs.declared.word.Given.{Given as OwnGiven}
use Rattle.oberon_infer.specs.declared.word.Given.TheVariants as givens
use Rattle.oberon_infer.specs.Memory.{plain_ex}
use Rattle.oberon_rules.specs.Scopes.{Predeclared}
use Rattle.oberon_rules.specs.Expressions.{Ex, nothing, word_called}

pub data Given : Type 0 where
  none_given : Given
  one_given : Ex → Given
  two_given : Ex → Ex → Given
  many_given : Given

abbrev pub given_with : Given → Ex → Given
given_with none_given x = one_given x
given_with (one_given x) y = two_given x y
given_with (two_given x y) z = many_given
given_with many_given x = many_given

-- with these behind
abbrev pub given_behind : Given → List Ex → Given
given_behind g [] = g
given_behind g (x ∷ xs) = given_behind (given_with g x) xs

-- three stand for more
abbrev pub word_given : Predeclared → Given → Ex
word_given w none_given = word_called w []
word_given w (one_given x) = word_called w (x ∷ [])
word_given w (two_given x y) = word_called w (x ∷ y ∷ [])
word_given w many_given = word_called w (nothing ∷ nothing ∷ nothing ∷ [])

abbrev pub plain_given : OwnGiven → Given
plain_given givens.Nothing = none_given
plain_given (givens.One x) = one_given (plain_ex x)
plain_given (givens.Two x y) = two_given (plain_ex x) (plain_ex y)
plain_given givens.Many = many_given
