-- What a message says, and the JSON value that it is written as (JSON-RPC 2.0, sections 4 and 5).
use Rattle.std.specs.Prelude.{◌≤◌, ℕ, ℤ, FitsSigned, List, length, codes, Option, Some, None, option_map, Result, Ok, Err}
use Rattle.std.specs.Int.{w64}
use Rattle.std.specs.Str.{IsUtf8}
use Rattle.serde_json.specs.Data.{Data, null, number, string, object, Members, member, no_members}
use Rattle.serde_json.specs.Find.{of_integer}
use Rattle.serde_json.specs.View.{view}
use Rattle.serde_json.specs.Written.{compact_text}
use Rattle.serde_json.specs.declared.value.Value.{Value}
use Rattle.rpc_peer.specs.declared.message.Id.{Id}
use Rattle.rpc_peer.specs.declared.message.Id.TheVariants as ids
use Rattle.rpc_peer.specs.declared.message.ErrorObject.{ErrorObject}
use Rattle.rpc_peer.specs.declared.message.Message.{Message}
use Rattle.rpc_peer.specs.declared.message.Message.TheVariants as messages

-- A response has a result or a failure, which is a code and a message.
pub data Said : Type 0 where
  request : Id → List ℕ → Option Data → Said
  notification : List ℕ → Option Data → Said
  result : Option Id → Data → Said
  failure : Option Id → ℤ → List ℕ → Said

abbrev pub said_answer : Option Id → Result Value ErrorObject → Said
said_answer id (Ok value) = result id (view value)
said_answer id (Err error) = failure id error.code error.message

-- what a message in memory says
abbrev pub said : Message → Said
said (messages.Request id method params) = request id method (option_map view params)
said (messages.Notification method params) = notification method (option_map view params)
said (messages.Response id answer) = said_answer id answer

-- ---- as JSON

abbrev pub id_data : Id → Data
id_data (ids.Number n) = number (of_integer n)
id_data (ids.Text t) = string t

-- a response whose request's id couldn't be read has the id null
abbrev pub answered_data : Option Id → Data
answered_data None = null
answered_data (Some id) = id_data id

abbrev pub params_members : Option Data → Members
params_members None = no_members
params_members (Some params) = member (codes "params") params no_members

abbrev pub version : Data
version = string (codes "2.0")

abbrev pub error_data : ℤ → List ℕ → Data
error_data code message =
    object (member (codes "code") (number (of_integer code)) (member (codes "message") (string message) no_members))

abbrev pub request_members : List ℕ → Option Data → Members
request_members method params =
    member (codes "jsonrpc") version (member (codes "method") (string method) (params_members params))

-- the object of a message, its members in the order of their names
abbrev pub said_data : Said → Data
said_data (request id method params) = object (member (codes "id") (id_data id) (request_members method params))
said_data (notification method params) = object (request_members method params)
said_data (result id value) =
    object (member (codes "id") (answered_data id) (member (codes "jsonrpc") version (member (codes "result") value no_members)))
said_data (failure id code message) =
    object (member (codes "error") (error_data code message) (member (codes "id") (answered_data id) (member (codes "jsonrpc") version no_members)))

-- the body that a message is written as
unfoldable pub body_of : Said → List ℕ
body_of m = compact_text (said_data m)

-- ---- ids and texts

-- the most bytes of an id that is a text
abbrev pub id_limit : ℕ
id_limit = 1024

-- an id is a whole number of 64 bits with sign, or a text within its limit
abbrev pub IsId : Id → Type 0
IsId (ids.Number n) = FitsSigned w64 n
IsId (ids.Text t) = IsUtf8 t × (length t ≤ id_limit)

abbrev pub IsAnyId : Option Id → Type 0
IsAnyId None = Unit {0}
IsAnyId (Some id) = IsId id

-- the id of a message is one, where it has an id
abbrev pub HasId : Said → Type 0
HasId (request id method params) = IsId id
HasId (notification method params) = Unit {0}
HasId (result id value) = IsAnyId id
HasId (failure id code message) = IsAnyId id

abbrev pub HasText : Id → Type 0
HasText (ids.Number n) = Unit {0}
HasText (ids.Text t) = IsUtf8 t

abbrev pub HasAnyText : Option Id → Type 0
HasAnyText None = Unit {0}
HasAnyText (Some id) = HasText id

-- the texts of a message are UTF-8, those in its values aside, which always are
abbrev pub HasTexts : Said → Type 0
HasTexts (request id method params) = HasText id × IsUtf8 method
HasTexts (notification method params) = IsUtf8 method
HasTexts (result id value) = HasAnyText id
HasTexts (failure id code message) = HasAnyText id × IsUtf8 message
