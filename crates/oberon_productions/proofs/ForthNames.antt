-- The machine takes names whole: what a tree of them prints leads it past their parts.
use Rattle.std.specs.Prelude.{◌≡◌, ◌<◌, false, List, [], ◌∷◌, ◌++◌, Option, Some, None, refl}
use Rattle.std.proofs.Common.{◌∙◌, arith}
use Rattle.ob_text.specs.declared.span.Span.{Span}
use Rattle.oberon_scan.specs.declared.token.Token.{Token}
use Rattle.oberon_scan.specs.declared.token.Symbol.TheVariants as symbols
use Rattle.oberon_tree.specs.declared.leaf.Member.{Member}
use Rattle.oberon_tree.specs.declared.leaf.Qualident.{Qualident}
use Rattle.oberon_tree.specs.declared.leaf.NextIdentDef.{NextIdentDef}
use Rattle.oberon_tree.specs.declared.leaf.NextIdent.{NextIdent}
use Rattle.oberon_tree.specs.Trees.{IdentDefsTree}
use Rattle.oberon_tree.specs.Print.{print_each, print_some, print_member, print_qualident, print_mark, print_next_ident_def, print_ident_defs, print_next_ident}
use Rattle.oberon_productions.specs.Expected.{Expected}
use Rattle.oberon_productions.specs.Expected as want
use Rattle.oberon_productions.specs.Tests.{is_symbol, next_is}
use Rattle.oberon_productions.proofs.Follows.{next_reach}
use Rattle.oberon_productions.specs.Machine.{qualident_parts, ident_defs_parts, idents_parts, feed, stops}
use Rattle.oberon_productions.proofs.Found.{no_symbol}
use Rattle.oberon_productions.proofs.Steps.{skip}

pub over_member : (o : Option Member) (s : List Expected) (rest : List Token) → next_is (is_symbol symbols.Period) rest ≡ false → stops (want.some_member ∷ s) (print_some print_member o rest) ≡ stops s rest
unfolding stops feed
over_member None s rest q = skip want.some_member (is_symbol symbols.Period) (want.ident ∷ []) s rest refl (λ k. refl) q
over_member (Some m) s rest q = refl

pub over_qualident : (q : Qualident) (s : List Expected) (rest : List Token) → next_is (is_symbol symbols.Period) rest ≡ false → stops (qualident_parts ++ s) (print_qualident q rest) ≡ stops s rest
unfolding stops feed
over_qualident q s rest h = over_member q.member s rest h

pub over_mark : (o : Option Span) (s : List Expected) (rest : List Token) → next_is (is_symbol symbols.Star) rest ≡ false → stops (want.some_mark ∷ s) (print_some print_mark o rest) ≡ stops s rest
unfolding stops feed
over_mark None s rest q = skip want.some_mark (is_symbol symbols.Star) [] s rest refl (λ k. refl) q
over_mark (Some m) s rest q = refl

pub ident_defs_no_star : (xs : List NextIdentDef) (rest : List Token) → next_reach rest < 4 → next_is (is_symbol symbols.Star) (print_each print_next_ident_def xs rest) ≡ false
ident_defs_no_star [] rest h = no_symbol symbols.Star rest (omega arith)
ident_defs_no_star (x ∷ xs) rest h = refl

pub over_more_ident_defs : (xs : List NextIdentDef) (s : List Expected) (rest : List Token) → next_reach rest < 4 → stops (want.ident_defs ∷ s) (print_each print_next_ident_def xs rest) ≡ stops s rest
unfolding stops feed
over_more_ident_defs [] s rest h = skip want.ident_defs (is_symbol symbols.Comma) ident_defs_parts s rest refl (λ k. refl) (no_symbol symbols.Comma rest h)
over_more_ident_defs (x ∷ xs) s rest h = over_mark x.ident.export (want.ident_defs ∷ s) (print_each print_next_ident_def xs rest) (ident_defs_no_star xs rest h) ∙ over_more_ident_defs xs s rest h

pub over_ident_defs : (ds : IdentDefsTree) (s : List Expected) (rest : List Token) → next_reach rest < 4 → stops (ident_defs_parts ++ s) (print_ident_defs ds rest) ≡ stops s rest
unfolding stops feed
over_ident_defs ds s rest h = over_mark ds.first.export (want.ident_defs ∷ s) (print_each print_next_ident_def ds.rest rest) (ident_defs_no_star ds.rest rest h) ∙ over_more_ident_defs ds.rest s rest h

pub over_more_idents : (xs : List NextIdent) (s : List Expected) (rest : List Token) → next_reach rest < 4 → stops (want.idents ∷ s) (print_each print_next_ident xs rest) ≡ stops s rest
unfolding stops feed
over_more_idents [] s rest h = skip want.idents (is_symbol symbols.Comma) idents_parts s rest refl (λ k. refl) (no_symbol symbols.Comma rest h)
over_more_idents (x ∷ xs) s rest h = over_more_idents xs s rest h
