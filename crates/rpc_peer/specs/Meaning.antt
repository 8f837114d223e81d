-- What the body of a frame means (JSON-RPC 2.0, sections 4 and 5), over what `serde_json` reads.
use Rattle.std.specs.Prelude.{◌≡◌, ◌==◌, ℕ, ℤ, negsuc, nat_le, List, length, codes, Option, Some, None, option_map, option_and_then, Result, Ok, Err, Bool, false, if◌then◌else◌}
use Rattle.std.specs.Option.{option_map_or}
use Rattle.std.specs.Str.{is_utf8}
use Rattle.std.specs.Cmp.Lexicographic.{pointwise}
use Rattle.serde_json.specs.Data.{Data, null, boolean, number, string, array, object}
use Rattle.serde_json.specs.Find.{get, as_i64, as_number, as_str}
use Rattle.serde_json.specs.Read.{read}
use Rattle.rpc_peer.specs.Said.{Said, said, request, notification, result, failure, id_limit}
use Rattle.rpc_peer.specs.declared.message.Id.{Id}
use Rattle.rpc_peer.specs.declared.message.Id.TheVariants as ids
use Rattle.rpc_peer.specs.declared.message.Message.{Message}
use Rattle.rpc_peer.specs.declared.refusal.Refusal.{Refusal}
use Rattle.rpc_peer.specs.declared.refusal.Refusal.TheVariants as refusals

-- ---- the members of a value; one that is no object has none

abbrev pub text_member : List ℕ → Data → Option (List ℕ)
text_member name d = option_and_then as_str (get name d)

-- a number that is held as an integer and has 64 bits with sign
abbrev pub whole_number : Data → Option ℤ
whole_number d = option_and_then as_i64 (as_number d)

abbrev pub is_text : List ℕ → Option (List ℕ) → Bool
is_text text found = option_map_or (pointwise ◌==◌ text) found false

-- an id is a whole number, or a text within its limit
abbrev pub id_in : Data → Option Id
id_in null = None
id_in (boolean b) = None
id_in (number n) = option_map ids.Number (as_i64 n)
id_in (string t) = if nat_le (length t) id_limit then Some (ids.Text t) else None
id_in (array items) = None
id_in (object ms) = None

-- the id of a response, which is null where the request's couldn't be read
abbrev pub answered_id : Data → Option (Option Id)
answered_id null = Some None
answered_id d = option_map Some (id_in d)

-- params are an array or an object, or none, as where they are null
abbrev pub params_of : Option Data → Option (Option Data)
params_of None = Some None
params_of (Some null) = Some None
params_of (Some (boolean b)) = None
params_of (Some (number n)) = None
params_of (Some (string t)) = None
params_of (Some (array items)) = Some (Some (array items))
params_of (Some (object ms)) = Some (Some (object ms))

-- ---- with a method: a notification without an id, else a request

abbrev pub call_with : Option Data → List ℕ → Option Data → Option Said
call_with None method params = Some (notification method params)
call_with (Some d) method params = option_map (λ id. request id method params) (id_in d)

abbrev pub call_of : Data → Option Data → Option Data → Option Said
call_of method id params =
    option_and_then (λ name. option_and_then (call_with id name) (params_of params)) (as_str method)

-- ---- without a method: a response, with either a result or an error

abbrev pub failure_with : Option Id → Option ℤ → Option (List ℕ) → Option Said
failure_with id code message = option_and_then (λ c. option_map (failure id c) message) code

abbrev pub failure_of : Option Id → Data → Option Said
failure_of id error = failure_with id (option_and_then whole_number (get (codes "code") error)) (text_member (codes "message") error)

abbrev pub answer_of : Option Data → Option Data → Option Id → Option Said
answer_of (Some value) None id = Some (result id value)
answer_of None (Some error) id = failure_of id error
answer_of None None id = None
answer_of (Some value) (Some error) id = None

abbrev pub response_of : Option Data → Option Data → Option Data → Option Said
response_of id value error = option_and_then (λ i. option_and_then (answer_of value error) (answered_id i)) id

-- ---- the message that a body means

abbrev pub by_method : Option Data → Data → Option Said
by_method (Some method) d = call_of method (get (codes "id") d) (get (codes "params") d)
by_method None d = response_of (get (codes "id") d) (get (codes "result") d) (get (codes "error") d)

-- the message that a JSON value is; each is of the version 2.0
abbrev pub message_in : Data → Option Said
message_in d = if is_text (codes "2.0") (text_member (codes "jsonrpc") d) then by_method (get (codes "method") d) d else None

-- the codes of a body that is no JSON, and of one that is no message
abbrev pub parse_error : ℤ
parse_error = negsuc 32699

abbrev pub invalid_request : ℤ
invalid_request = negsuc 32599

abbrev pub message_or : Option Said → Result Said ℤ
message_or None = Err invalid_request
message_or (Some m) = Ok m

abbrev pub meaning_of : Option Data → Result Said ℤ
meaning_of None = Err parse_error
meaning_of (Some d) = message_or (message_in d)

-- how deep the values of a body nest at most, its own object counted
abbrev pub nesting_limit : ℕ
nesting_limit = 127

-- the JSON value of a body that is text
abbrev pub body_value : List ℕ → Option Data
body_value body = if is_utf8 body then read body else None

-- the message that a body means, or the code that its sender is answered
unfoldable pub meaning : List ℕ → Result Said ℤ
meaning body = meaning_of (body_value body)

-- what was read is what the body means; want of memory says nothing
abbrev pub ReadAs : Result Message Refusal → Result Said ℤ → Type 0
ReadAs (Ok message) meant = meant ≡ Ok (said message)
ReadAs (Err (refusals.Coded code)) meant = meant ≡ Err code
ReadAs (Err refusals.NoMemory) meant = Unit {0}
