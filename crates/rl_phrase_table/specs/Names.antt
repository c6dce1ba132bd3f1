-- The names of the rules of the grammar, and of the classes of tokens.
use Rattle.std.specs.Prelude.{codes}
use Rattle.rl_phrase_table.specs.Expression.{Expression, Name}

abbrev pub Module : Expression
Module = Name (codes "Module")

abbrev pub QName : Expression
QName = Name (codes "QName")

abbrev pub Top : Expression
Top = Name (codes "Top")

abbrev pub Import : Expression
Import = Name (codes "Import")

abbrev pub DataDef : Expression
DataDef = Name (codes "DataDef")

abbrev pub Variant : Expression
Variant = Name (codes "Variant")

abbrev pub Field : Expression
Field = Name (codes "Field")

abbrev pub Global : Expression
Global = Name (codes "Global")

abbrev pub Fun : Expression
Fun = Name (codes "Fun")

abbrev pub «Type» : Expression
«Type» = Name (codes "Type")

abbrev pub Syntax : Expression
Syntax = Name (codes "Syntax")

abbrev pub Level : Expression
Level = Name (codes "Level")

abbrev pub Alt : Expression
Alt = Name (codes "Alt")

abbrev pub Assoc : Expression
Assoc = Name (codes "Assoc")

abbrev pub Prod : Expression
Prod = Name (codes "Prod")

abbrev pub Sym : Expression
Sym = Name (codes "Sym")

abbrev pub Near : Expression
Near = Name (codes "Near")

abbrev pub Rep : Expression
Rep = Name (codes "Rep")

abbrev pub Atom : Expression
Atom = Name (codes "Atom")

abbrev pub Chars : Expression
Chars = Name (codes "Chars")

abbrev pub Stat : Expression
Stat = Name (codes "Stat")

abbrev pub Block : Expression
Block = Name (codes "Block")

abbrev pub If : Expression
If = Name (codes "If")

abbrev pub Switch : Expression
Switch = Name (codes "Switch")

abbrev pub Case : Expression
Case = Name (codes "Case")

abbrev pub Loop : Expression
Loop = Name (codes "Loop")

abbrev pub Solve : Expression
Solve = Name (codes "Solve")

abbrev pub Try : Expression
Try = Name (codes "Try")

abbrev pub Catch : Expression
Catch = Name (codes "Catch")

abbrev pub Finally : Expression
Finally = Name (codes "Finally")

abbrev pub Simple : Expression
Simple = Name (codes "Simple")

abbrev pub Rhs : Expression
Rhs = Name (codes "Rhs")

abbrev pub Conds : Expression
Conds = Name (codes "Conds")

abbrev pub Exp : Expression
Exp = Name (codes "Exp")

abbrev pub Imp : Expression
Imp = Name (codes "Imp")

abbrev pub Or : Expression
Or = Name (codes "Or")

abbrev pub And : Expression
And = Name (codes "And")

abbrev pub Test : Expression
Test = Name (codes "Test")

abbrev pub Cmp : Expression
Cmp = Name (codes "Cmp")

abbrev pub Rel : Expression
Rel = Name (codes "Rel")

abbrev pub Add : Expression
Add = Name (codes "Add")

abbrev pub Mul : Expression
Mul = Name (codes "Mul")

abbrev pub Com : Expression
Com = Name (codes "Com")

abbrev pub Un : Expression
Un = Name (codes "Un")

abbrev pub Suf : Expression
Suf = Name (codes "Suf")

abbrev pub Sub : Expression
Sub = Name (codes "Sub")

abbrev pub Starter : Expression
Starter = Name (codes "Starter")

abbrev pub Prim : Expression
Prim = Name (codes "Prim")

abbrev pub Arg : Expression
Arg = Name (codes "Arg")

abbrev pub Visit : Expression
Visit = Name (codes "Visit")

abbrev pub Strategy : Expression
Strategy = Name (codes "Strategy")

abbrev pub Concrete : Expression
Concrete = Name (codes "Concrete")

abbrev pub Paren : Expression
Paren = Name (codes "Paren")

abbrev pub List : Expression
List = Name (codes "List")

abbrev pub Set : Expression
Set = Name (codes "Set")

abbrev pub Elem : Expression
Elem = Name (codes "Elem")

abbrev pub Pat : Expression
Pat = Name (codes "Pat")

abbrev pub Plain : Expression
Plain = Name (codes "Plain")

abbrev pub Star : Expression
Star = Name (codes "Star")

abbrev pub End : Expression
End = Name (codes "End")

abbrev pub Id : Expression
Id = Name (codes "Id")

abbrev pub UId : Expression
UId = Name (codes "UId")

abbrev pub LId : Expression
LId = Name (codes "LId")

abbrev pub Int : Expression
Int = Name (codes "Int")

abbrev pub Str : Expression
Str = Name (codes "Str")

abbrev pub StrHead : Expression
StrHead = Name (codes "StrHead")

abbrev pub StrMid : Expression
StrMid = Name (codes "StrMid")

abbrev pub StrTail : Expression
StrTail = Name (codes "StrTail")

abbrev pub Loc : Expression
Loc = Name (codes "Loc")

abbrev pub Back : Expression
Back = Name (codes "Back")

abbrev pub Class : Expression
Class = Name (codes "Class")
