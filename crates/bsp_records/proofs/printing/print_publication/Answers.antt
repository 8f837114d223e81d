use Rattle.std.proofs.Common.{◌≡◌, ◌++◌, ◌∙◌, ℕ, List, map, ap}
use Rattle.std.specs.Prelude.{codes}
use Rattle.std.proofs.lemmas.Result.{on_ok_weaker}
use Rattle.serde_json.specs.Data.{boolean}
use Rattle.serde_json.specs.Written.{compact_text}
use Rattle.bsp_records.specs.Diagnostics.{diagnostic_data}
use Rattle.bsp_records.specs.Identifiers.{identifier_data}
use Rattle.bsp_records.specs.Printing.{origin_text}
use Rattle.bsp_records.specs.Shown.{shown}
use Rattle.bsp_records.specs.Writing.{array_with}
use Rattle.bsp_records.proofs.PrintingLaws.{parts_joined, printed, printed_on}
use Rattle.bsp_records.proofs.printing.print_publication.Goals as goal

pub returns : goal.returns
returns c =
    let out : List ℕ = c.args.out.now.items in
    let list = array_with (map diagnostic_data (map shown c.args.list.now)) in
    let a = codes "{\"buildTarget\":" in
    let b = compact_text (identifier_data c.args.target.now) in
    let d = codes ",\"diagnostics\":" in
    let e = compact_text list in
    let f = origin_text c.args.origin.now in
    let g = codes ",\"reset\":" in
    let h = compact_text (boolean c.args.reset) in
    let i = codes ",\"textDocument\":" in
    let j = compact_text (identifier_data c.args.document.now) in
    let k = codes "}" in
    let one : c.put.new.out.items ≡ out ++ a = c.in_ok-put.ensures in
    let target : c.print.new.out.items ≡ c.put.new.out.items ++ b =
    c.in_ok-print.ensures ∙ ap (λ (uri : List ℕ). c.put.new.out.items ++ compact_text (identifier_data uri)) (c.in_ok-copy.ensures ∙ c.as_text.ensures.text) in
    let two : c.print.new.out.items ≡ (out ++ a) ++ b = printed_on c.print.new.out.items c.put.new.out.items (out ++ a) b target one in
    let three : c.put-2.new.out.items ≡ ((out ++ a) ++ b) ++ d = printed_on c.put-2.new.out.items c.print.new.out.items ((out ++ a) ++ b) d c.in_ok-put-2.ensures two in
    let four : c.print_list.new.out.items ≡ (((out ++ a) ++ b) ++ d) ++ e = printed_on c.print_list.new.out.items c.put-2.new.out.items (((out ++ a) ++ b) ++ d) e c.in_ok-print_list.ensures three in
    let five : c.print_origin.new.out.items ≡ ((((out ++ a) ++ b) ++ d) ++ e) ++ f =
    printed_on c.print_origin.new.out.items c.print_list.new.out.items ((((out ++ a) ++ b) ++ d) ++ e) f c.in_ok-print_origin.ensures four in
    let six : c.put-3.new.out.items ≡ (((((out ++ a) ++ b) ++ d) ++ e) ++ f) ++ g =
    printed_on c.put-3.new.out.items c.print_origin.new.out.items (((((out ++ a) ++ b) ++ d) ++ e) ++ f) g c.in_ok-put-3.ensures five in
    let seven : c.print-2.new.out.items ≡ ((((((out ++ a) ++ b) ++ d) ++ e) ++ f) ++ g) ++ h =
    printed_on c.print-2.new.out.items c.put-3.new.out.items ((((((out ++ a) ++ b) ++ d) ++ e) ++ f) ++ g) h c.in_ok-print-2.ensures six in
    let eight : c.put-4.new.out.items ≡ (((((((out ++ a) ++ b) ++ d) ++ e) ++ f) ++ g) ++ h) ++ i =
    printed_on c.put-4.new.out.items c.print-2.new.out.items (((((((out ++ a) ++ b) ++ d) ++ e) ++ f) ++ g) ++ h) i c.in_ok-put-4.ensures seven in
    let document : c.print-3.new.out.items ≡ c.put-4.new.out.items ++ j =
    c.in_ok-print-3.ensures ∙ ap (λ (uri : List ℕ). c.put-4.new.out.items ++ compact_text (identifier_data uri)) (c.in_ok-copy-2.ensures ∙ c.as_text-2.ensures.text) in
    let nine : c.print-3.new.out.items ≡ ((((((((out ++ a) ++ b) ++ d) ++ e) ++ f) ++ g) ++ h) ++ i) ++ j =
    printed_on c.print-3.new.out.items c.put-4.new.out.items ((((((((out ++ a) ++ b) ++ d) ++ e) ++ f) ++ g) ++ h) ++ i) j document eight in
    on_ok_weaker c.put-5.result
    (λ (last : c.put-5.new.out.items ≡ c.print-3.new.out.items ++ k).
    printed_on c.put-5.new.out.items c.print-3.new.out.items (((((((((out ++ a) ++ b) ++ d) ++ e) ++ f) ++ g) ++ h) ++ i) ++ j) k last nine
    ∙ (parts_joined out a b d e f g h i j k
    ∙ ap (λ (text : List ℕ). out ++ text) (printed (identifier_data c.args.document.now) (identifier_data c.args.target.now) list (boolean c.args.reset) c.args.origin.now)))
    c.put-5.ensures
