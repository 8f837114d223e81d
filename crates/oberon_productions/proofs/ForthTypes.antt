-- The machine takes a type whole.
use Rattle.std.specs.Prelude.{◌≡◌, ℕ, zero, suc, ◌<◌, ◌≤◌, false, List, [], ◌∷◌, ◌++◌, Option, Some, None, refl}
use Rattle.std.proofs.Common.{◌∙◌, arith}
use Rattle.ob_text.specs.declared.span.Span.{Span}
use Rattle.oberon_scan.specs.declared.token.Token.{Token}
use Rattle.oberon_scan.specs.declared.token.Word.TheVariants as words
use Rattle.oberon_scan.specs.declared.token.Symbol.TheVariants as symbols
use Rattle.oberon_tree.specs.declared.types.Base.{Base}
use Rattle.oberon_tree.specs.Tokens.{symbol_token, word_token}
use Rattle.oberon_tree.specs.Trees.{TypeTree, named_type, array_type, record_type, RecordTree, record_of, FieldListsTree, no_fields, some_fields, MoreFieldsTree, no_more_fields, more_fields, fields_of}
use Rattle.oberon_tree.specs.Print.{print_some, print_base, print_type, print_record, print_field_lists, print_more_fields}
use Rattle.oberon_tree.specs.Levels.{depth_of_type, depth_of_record, depth_of_field_lists, depth_of_more_fields}
use Rattle.oberon_productions.specs.Expected.{Expected}
use Rattle.oberon_productions.specs.Expected as want
use Rattle.oberon_productions.specs.Tests.{is_symbol, next_is}
use Rattle.oberon_productions.proofs.Follows.{next_reach}
use Rattle.oberon_productions.specs.Machine.{qualident_parts, fields_parts, feed, stops}
use Rattle.oberon_productions.proofs.Found.{no_symbol}
use Rattle.oberon_productions.proofs.Steps.{skip}
use Rattle.oberon_productions.proofs.ForthNames.{over_member, over_ident_defs}
use Rattle.oberon_productions.proofs.ForthExpressions.{over_exprs}

pub over_base : (o : Option Base) (s : List Expected) (rest : List Token) → next_is (is_symbol symbols.OpenParen) rest ≡ false → stops (want.some_base ∷ s) (print_some print_base o rest) ≡ stops s rest
unfolding stops feed
over_base None s rest q = skip want.some_base (is_symbol symbols.OpenParen) (qualident_parts ++ want.symbol symbols.CloseParen ∷ []) s rest refl (λ k. refl) q
over_base (Some b) s rest q = over_member b.name.member (want.symbol symbols.CloseParen ∷ s) (symbol_token symbols.CloseParen b.closing ∷ rest) refl

more_fields_next : (x : MoreFieldsTree) (rest : List Token) → next_reach rest < 1 → next_reach (print_more_fields x rest) < 9
more_fields_next no_more_fields rest h = omega arith
more_fields_next (more_fields semicolon fs more) rest h = omega arith

fields_no_paren : (x : FieldListsTree) (last : Span) (rest : List Token) → next_is (is_symbol symbols.OpenParen) (print_field_lists x (word_token words.End last ∷ rest)) ≡ false
fields_no_paren no_fields last rest = refl
fields_no_paren (some_fields (fields_of names colon t) more) last rest = refl

mutual
  unfolding stops feed

  pub over_type : (x : TypeTree) (d : ℕ) (s : List Expected) (rest : List Token) → depth_of_type x ≤ d → next_reach rest < 9 → stops (want.type_part d ∷ s) (print_type x rest) ≡ stops s rest
  over_type (named_type q) d s rest h r = over_member q.member s rest (no_symbol symbols.Period rest r)
  over_type (array_type word es of_word t) zero s rest h r = absurd (omega arith)
  over_type (array_type word es of_word t) (suc d) s rest h r = over_exprs es d (want.word words.Of ∷ want.type_part d ∷ s) (word_token words.Of of_word ∷ print_type t rest) (omega arith) (omega arith) ∙ over_type t d s rest (omega arith) r
  over_type (record_type x) d s rest h r = over_record x d s rest h

  pub over_record : (x : RecordTree) (d : ℕ) (s : List Expected) (rest : List Token) → depth_of_record x ≤ d → stops (want.type_part d ∷ s) (print_record x rest) ≡ stops s rest
  over_record (record_of word base fs last) zero s rest h = absurd (omega arith)
  over_record (record_of word base fs last) (suc d) s rest h = over_base base (want.rest_of_record d ∷ s) (print_field_lists fs (word_token words.End last ∷ rest)) (fields_no_paren fs last rest) ∙ over_field_lists fs d last s rest (omega arith)

  pub over_field_lists : (x : FieldListsTree) (d : ℕ) (last : Span) (s : List Expected) (rest : List Token) → depth_of_field_lists x ≤ d → stops (want.rest_of_record d ∷ s) (print_field_lists x (word_token words.End last ∷ rest)) ≡ stops s rest
  over_field_lists no_fields d last s rest h = refl
  over_field_lists (some_fields (fields_of names colon t) more) d last s rest h =
      over_ident_defs names (want.symbol symbols.Colon ∷ want.type_part d ∷ want.fields d ∷ want.word words.End ∷ s) (symbol_token symbols.Colon colon ∷ print_type t (print_more_fields more (word_token words.End last ∷ rest))) (omega arith) ∙ over_type t d (want.fields d ∷ want.word words.End ∷ s) (print_more_fields more (word_token words.End last ∷ rest)) (omega arith) (more_fields_next more (word_token words.End last ∷ rest) (omega arith)) ∙ over_more_fields more d (want.word words.End ∷ s) (word_token words.End last ∷ rest) (omega arith) (omega arith)

  pub over_more_fields : (x : MoreFieldsTree) (d : ℕ) (s : List Expected) (rest : List Token) → depth_of_more_fields x ≤ d → next_reach rest < 1 → stops (want.fields d ∷ s) (print_more_fields x rest) ≡ stops s rest
  over_more_fields no_more_fields d s rest h r = skip (want.fields d) (is_symbol symbols.Semicolon) (fields_parts d ++ want.fields d ∷ []) s rest refl (λ k. refl) (no_symbol symbols.Semicolon rest r)
  over_more_fields (more_fields semicolon (fields_of names colon t) more) d s rest h r =
      over_ident_defs names (want.symbol symbols.Colon ∷ want.type_part d ∷ want.fields d ∷ s) (symbol_token symbols.Colon colon ∷ print_type t (print_more_fields more rest)) (omega arith) ∙ over_type t d (want.fields d ∷ s) (print_more_fields more rest) (omega arith) (more_fields_next more rest r) ∙ over_more_fields more d s rest (omega arith) r
