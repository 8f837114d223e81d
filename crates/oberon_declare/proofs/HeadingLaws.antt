-- Headings: open arrays from the innermost out.
use Rattle.std.specs.Prelude.{ℕ, zero, suc, ◌≡◌, ◌+◌, ◌<◌, List, [], ◌∷◌, length, drop, Option, refl}
use Rattle.std.proofs.Common.{ap, sym, ◌∙◌, arith, add-one}
use Rattle.ob_text.specs.declared.code.Code.TheVariants as codes_of
use Rattle.ob_text.specs.declared.span.Span.{Span}
use Rattle.oberon_tree.specs.declared.leaf.Ident.{Ident}
use Rattle.oberon_tree.specs.declared.module.OpenArray.{OpenArray}
use Rattle.oberon_tree.specs.Trees.{SectionTree}
use Rattle.oberon_types.specs.Sizes.{too_large}
use Rattle.oberon_types.specs.Types.{TyTree, open_ty}
use Rattle.oberon_rules.specs.Procedures.{idents, first_new_ident, section_type, section_is, opened, open_rows}
use Rattle.oberon_rules.specs.Scopes.{Scopes, is_declared, Said, row}
use Rattle.oberon_rules.specs.TypeRules.{limited}

pub opened_inside : (me : List ℕ) (os : List OpenArray) (t : TyTree) → opened me os (limited me (open_ty t)) ≡ limited me (open_ty (opened me os t))
opened_inside me [] t = refl
opened_inside me (o ∷ os) t = ap (λ u. limited me (open_ty u)) (opened_inside me os t)

pub rows_inside : (me : List ℕ) (o : OpenArray) (os : List OpenArray) (t : TyTree) (place : Span) (rest : List Said) → row (too_large me (open_ty t)) place codes_of.TypeTooLarge (open_rows me os (limited me (open_ty t)) place rest) ≡ open_rows me (o ∷ os) t place rest
rows_inside me o [] t place rest = refl
rows_inside me o (p ∷ os) t place rest =
    ap (λ u. row (too_large me (open_ty t)) place codes_of.TypeTooLarge (open_rows me os (limited me (open_ty t)) place (row (too_large me (open_ty u)) place codes_of.TypeTooLarge rest))) (opened_inside me os t)
    ∙ rows_inside me o os t place (row (too_large me (open_ty (opened me (p ∷ os) t))) place codes_of.TypeTooLarge rest)

-- ---- one more ARRAY OF

pub open_loop : (me : List ℕ) (items : List OpenArray) (i : ℕ) (t : TyTree) → i < length items → opened me (drop (i + 1) items) (limited me (open_ty t)) ≡ opened me (drop i items) t
open_loop me [] i t l = absurd (omega arith)
open_loop me (o ∷ os) zero t l = opened_inside me os t
open_loop me (o ∷ os) (suc i) t l = rw add-one (rw add-one at (open_loop me os i t (omega arith)))

pub open_loop_rows : (me : List ℕ) (items : List OpenArray) (i : ℕ) (t : TyTree) (place : Span) (rest : List Said) → i < length items → open_rows me (drop i items) t place rest ≡ row (too_large me (open_ty t)) place codes_of.TypeTooLarge (open_rows me (drop (i + 1) items) (limited me (open_ty t)) place rest)
open_loop_rows me [] i t place rest l = absurd (omega arith)
open_loop_rows me (o ∷ os) zero t place rest l = sym (rows_inside me o os t place rest)
open_loop_rows me (o ∷ os) (suc i) t place rest l = rw add-one (rw add-one at (open_loop_rows me os i t place rest (omega arith)))

-- ---- sections, by the first name that declares something

pub section_type_is : (me : List ℕ) (s : Scopes) (x : SectionTree) (f : Option Ident) (t : TyTree) → f ≡ first_new_ident (is_declared s) (idents x.names) → t ≡ section_type me s x f → t ≡ section_is me s x
section_type_is me s x f t e g = g ∙ ap (section_type me s x) e
