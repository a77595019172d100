-- The refusals' numbers, the layer that each belongs to, and the layers' words. Assumes nothing.
use Rattle.std.specs.Prelude.{ℕ, List, codes}
use Rattle.command.specs.declared.refusal.Refusal.{Refusal}
use Rattle.command.specs.declared.refusal.Refusal.TheVariants.{AreaTooShort, OutOfStep, GreetingDue, TransferOpen, NoTransfer, ArgumentTooLong, ArgumentNotUtf8, ArgumentNotOneLine, NoEncoding, LineNotEnded, LineNotOne, LinkFull, LinkClosed, LinkBroken, ReplyTooLong, ReplyIllBegun, UnexpectedStatus, NoDecoding, BadResponse, UnexpectedResponse, TableFull, NotListening, NotDialled, NoCaller}
use Rattle.command.specs.declared.refusal.Layer.{Layer}
use Rattle.command.specs.declared.refusal.Layer.TheVariants.{Session, Line, Link, Reply, Carrier}

-- the place of its question among all, from 1 on
abbrev pub number_of : Refusal → ℕ
number_of AreaTooShort = 1
number_of OutOfStep = 2
number_of GreetingDue = 3
number_of TransferOpen = 4
number_of NoTransfer = 5
number_of ArgumentTooLong = 6
number_of ArgumentNotUtf8 = 7
number_of ArgumentNotOneLine = 8
number_of NoEncoding = 9
number_of LineNotEnded = 10
number_of LineNotOne = 11
number_of LinkFull = 12
number_of LinkClosed = 13
number_of LinkBroken = 14
number_of ReplyTooLong = 15
number_of ReplyIllBegun = 16
number_of UnexpectedStatus = 17
number_of NoDecoding = 18
number_of BadResponse = 19
number_of UnexpectedResponse = 20
number_of TableFull = 21
number_of NotListening = 22
number_of NotDialled = 23
number_of NoCaller = 24

-- the part of the session whose question it fails
abbrev pub layer_of : Refusal → Layer
layer_of AreaTooShort = Session
layer_of OutOfStep = Session
layer_of GreetingDue = Session
layer_of TransferOpen = Session
layer_of NoTransfer = Session
layer_of ArgumentTooLong = Line
layer_of ArgumentNotUtf8 = Line
layer_of ArgumentNotOneLine = Line
layer_of NoEncoding = Line
layer_of LineNotEnded = Line
layer_of LineNotOne = Line
layer_of LinkFull = Link
layer_of LinkClosed = Link
layer_of LinkBroken = Link
layer_of ReplyTooLong = Reply
layer_of ReplyIllBegun = Reply
layer_of UnexpectedStatus = Reply
layer_of NoDecoding = Reply
layer_of BadResponse = Reply
layer_of UnexpectedResponse = Reply
layer_of TableFull = Reply
layer_of NotListening = Carrier
layer_of NotDialled = Carrier
layer_of NoCaller = Carrier

-- a layer as it is printed
abbrev pub layer_word : Layer → List ℕ
layer_word Session = codes "session"
layer_word Line = codes "line"
layer_word Link = codes "link"
layer_word Reply = codes "reply"
layer_word Carrier = codes "carrier"
