mod WorkedTexts
