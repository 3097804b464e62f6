-- Each fault with its number and the value that it returns.
use Rattle.refusal.specs.declared.Refusal.{Refusal}
use Rattle.refusal.specs.declared.Refused.{Refused}
use Rattle.refusal.specs.declared.Layer.{Layer}
use Rattle.refusal.specs.declared.Layer.TheVariants as layer
use Rattle.refusal.specs.Refusals.{bare, with}
use Rattle.sheet.specs.Refusals as text
use Rattle.closing.specs.declared.fault.SkinFault.{SkinFault}
use Rattle.closing.specs.declared.fault.SkinFault.TheVariants.{Text, Face, TooMany, Short, Stray, Twice, Met, Single, Bare, Several, Crowded}

abbrev pub refusal_of : SkinFault → Refusal
refusal_of (Text fault) = text.refusal_of fault
refusal_of (Short places) = with 1 places
refusal_of TooMany = bare 5
refusal_of (Stray dart) = with 10 dart
refusal_of (Face face) = with 11 face
refusal_of (Twice dart) = with 12 dart
refusal_of (Met dart) = with 13 dart
refusal_of (Single dart) = with 14 dart
refusal_of (Bare vertex) = with 15 vertex
refusal_of (Several vertex) = with 16 vertex
refusal_of (Crowded vertex) = with 17 vertex

-- a text fault is the text's, any other the skin's
abbrev pub layer_of : SkinFault → Layer
layer_of (Text fault) = layer.Text
layer_of (Short places) = layer.Skin
layer_of TooMany = layer.Skin
layer_of (Stray dart) = layer.Skin
layer_of (Face face) = layer.Skin
layer_of (Twice dart) = layer.Skin
layer_of (Met dart) = layer.Skin
layer_of (Single dart) = layer.Skin
layer_of (Bare vertex) = layer.Skin
layer_of (Several vertex) = layer.Skin
layer_of (Crowded vertex) = layer.Skin

abbrev pub refused_by : SkinFault → Refused
refused_by fault = record { refusal = refusal_of fault; layer = layer_of fault }
